use Rattle.std.proofs.Common.{◌∙◌}
use Rattle.turn_measures.proofs.acts.hear.Goals as goal

pub loop-preserved : goal.loop-preserved
loop-preserved c = record {
  pool = λ pool of. c.in-Samples.ensures.pool pool (c.loop.invariant.pool pool of);
  room = c.next.auto.out ∙ c.loop.invariant.room;
}

pub returns-in_default : goal.returns-in_default
returns-in_default c = λ pool of. c.next.ensures.pool pool (c.loop.invariant.pool pool of)
