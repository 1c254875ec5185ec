use Rattle.std.proofs.Common.{◌≢◌, ℕ, ◌<◌, Some}
use Rattle.playing.specs.Frames.{resident_at}
use Rattle.playing.proofs.frames.find_block.Given as goal

abbrev pub invariant-loop-f : goal.invariant-loop-f
invariant-loop-f l = (f : ℕ) → f < l.f → resident_at l.resident f ≢ Some l.b
