use Rattle.std.proofs.Common.{◌≡◌, ℕ, ◌<◌, ◌||◌, true}
use Rattle.playing.specs.Frames.{is_read, is_wanted, resident_at}
use Rattle.playing.proofs.frames.spare_frame.Given as goal

abbrev pub invariant-loop-f : goal.invariant-loop-f
invariant-loop-f l = (f : ℕ) → f < l.f → (is_read l.readers f || is_wanted l.block l.window (resident_at l.resident f)) ≡ true
