use Rattle.table_measures.proofs.Single.{free_without}
use Rattle.table_measures.proofs.ropes.remove_some.Goals as goal

pub loop-k-preserved : goal.loop-k-preserved
loop-k-preserved c = free_without c.from-in-loop-k.result c.loop-k.table.ropes c.remove-pieces.new.self.ropes c.remove-pieces.ensures.ropes c.loop-k.invariant
