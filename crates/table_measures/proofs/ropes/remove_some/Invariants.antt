use Rattle.std.proofs.Common.{◌≡◌, false}
use Rattle.rope_table.specs.Table.{Every}
use Rattle.table_measures.proofs.ropes.remove_some.Given as goal

abbrev pub invariant-loop-k : goal.invariant-loop-k
invariant-loop-k l = Every (λ rope. rope.kept ≡ false) l.table.ropes
