-- What formatting leaves.
--     SameButHeads shape old new      equal but for the superblock, the two heads and the first record's gate
--     IsFormatted shape old image      the empty disk of a shape, made of these bytes
use Rattle.std.specs.Prelude.{◌≡◌, ◌+◌, ◌<◌, ◌≤◌, ℕ, List, length, slice_index, replicate}
use Rattle.voice_units.specs.declared.shapes.Shape.{Shape}
use Rattle.voice_outside.specs.Disk.{segment}
use Rattle.voice_journal.specs.Readings.{Reads, formatted}
use Rattle.voice_journal.specs.Spelled.{first_bytes}

-- equal but for the superblock, the two heads and the first record's gate
pub record SameButHeads (shape : Shape) (old new : List ℕ) : Type 0 where
  pub same_length : length new ≡ length old
  pub between : (i : ℕ) → 81 ≤ i → i < 64 + shape.area → slice_index new i ≡ slice_index old i
  pub behind : (i : ℕ) → 80 + shape.area ≤ i → slice_index new i ≡ slice_index old i

-- the empty disk of a shape, made of these bytes
pub record IsFormatted (shape : Shape) (old image : List ℕ) : Type 0 where
  pub reads : Reads image (formatted shape)
  pub first : segment image 0 81 ≡ first_bytes shape
  pub second : segment image (64 + shape.area) 16 ≡ replicate 16 0
  pub same : SameButHeads shape old image
