use Rattle.lane_calls.specs.Answers.{IsHandedOut}
use Rattle.voice_store.specs.Shown.{pool_of}
use Rattle.store_measures.proofs.plays.hear.Given as goal

abbrev pub invariant-loop : goal.invariant-loop
invariant-loop g l = IsHandedOut (pool_of l.store) 0 l.fed
