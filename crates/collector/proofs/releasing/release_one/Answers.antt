use Rattle.std.proofs.Common.{Some}
use Rattle.collector.proofs.Released.{one_released}
use Rattle.collector.proofs.releasing.release_one.Goals as goal

pub returns-clause-released : goal.returns-clause-released
returns-clause-released g c =
    one_released c.args.table.now c.remove.new.self c.args.blocks.now.holders c.drop_unused.new.blocks.holders c.args.id (Some c.in-Some.pieces)
    c.in-Some.ensures.value c.in-Some.ensures.ropes c.in-Some.ensures.block c.in-Some.ensures.uses c.in-Some.ensures.counts c.drop_unused.ensures.holders
