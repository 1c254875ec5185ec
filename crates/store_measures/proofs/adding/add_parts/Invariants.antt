use Rattle.std.proofs.Common.{◌≡◌}
use Rattle.voice_store.specs.Shown.{tapes_in}
use Rattle.store_measures.proofs.adding.add_parts.Given as goal

abbrev pub invariant-loop : goal.invariant-loop
invariant-loop g l = tapes_in l.store ≡ l.tapes
