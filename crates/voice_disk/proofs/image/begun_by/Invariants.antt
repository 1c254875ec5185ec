use Rattle.std.proofs.Common.{◌≡◌, ◌≤◌, ℕ, List, length, take, reverse}
use Rattle.voice_disk.specs.declared.record.Entry.{Entry}
use Rattle.voice_disk.specs.Image.{begun_by}
use Rattle.voice_disk.proofs.image.begun_by.Given as goal

-- the calls behind these are later
pub record AreLater (log : List Entry) (moment n : ℕ) : Type 0 where
  pub within : n ≤ length log
  pub later : begun_by moment (reverse (take n log)) ≡ begun_by moment (reverse log)

abbrev pub invariant-loop-n : goal.invariant-loop-n
invariant-loop-n l = AreLater l.log l.moment l.n

abbrev pub decreases-loop-n : goal.decreases-loop-n
decreases-loop-n l = l.n
