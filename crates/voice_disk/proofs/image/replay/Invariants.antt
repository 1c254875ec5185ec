use Rattle.std.proofs.Common.{◌≡◌, ℕ, List, take, reverse}
use Rattle.voice_disk.specs.declared.record.Entry.{Entry}
use Rattle.voice_disk.specs.Replay.{bytes_after}
use Rattle.voice_disk.specs.Image.{image_after}
use Rattle.voice_disk.proofs.image.replay.Given as goal

-- the calls so far have acted on both
pub record AreReplayed (first bytes image : List ℕ) (choice : ℕ) (calls : List Entry) : Type 0 where
  pub bytes_are : bytes ≡ bytes_after first (reverse calls)
  pub image_is : image ≡ image_after choice first (reverse calls)

abbrev pub invariant-loop-entry : goal.invariant-loop-entry
invariant-loop-entry l = AreReplayed l.initial.bytes l.bytes l.image l.choice (take l.entry-index l.calls)
