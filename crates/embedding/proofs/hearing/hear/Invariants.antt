use Rattle.lane_calls.specs.Answers.{IsHandedOut}
use Rattle.voice_model.specs.State.{State}
use Rattle.voice_store.specs.Shown.{Keeps, pool_of}
use Rattle.embedding.proofs.hearing.hear.Given as goal

abbrev pub invariant-loop : goal.invariant-loop
invariant-loop g l = record {
  out : IsHandedOut (pool_of l.store) l.fn.lane l.fed;
  keeps : (first : State) → Keeps g.D.Disk.told first l.fn.store → Keeps g.D.Disk.told first l.store;
}
