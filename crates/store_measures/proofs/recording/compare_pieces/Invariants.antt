use Rattle.std.proofs.Common.{◌≡◌}
use Rattle.voice_store.specs.Shown.{tapes_in}
use Rattle.store_measures.proofs.recording.compare_pieces.Given as goal

abbrev pub invariant-loop-k : goal.invariant-loop-k
invariant-loop-k g l = tapes_in l.store ≡ l.tapes
