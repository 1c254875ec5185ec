use Rattle.std.proofs.Common.{◌≡◌, ◌-◌, vec_len}
use Rattle.voice_blocks.proofs.bitmap.Bitmap.lowest_out.Given as goal

abbrev pub invariant-loop-self : goal.invariant-loop-self
invariant-loop-self l = l.self.words ≡ l.initial.self.words

abbrev pub decreases-loop-self : goal.decreases-loop-self
decreases-loop-self l = vec_len l.self.words - l.self.hint
