-- What is written into blocks.
--     LiesOutside shape addresses i      byte i of the disk lies in no block at one of these addresses
--     SameOutside shape addresses old new      equal but for the blocks at these addresses
--     IsTornAt shape addresses old image      what a crash may leave after, or in, writes into these blocks
--     WroteAt shape addresses old new      what was written, or may be left by a crash, lies in these blocks
--     AreBelow, AreDistinct      each address is below a number;  no address stands twice
--     byte_place shape addresses k      where byte k of a recording stands that lies in the blocks at these addresses
--     Holds shape addresses bytes n image      the first n bytes of these blocks, in order, are these bytes, and zeros behind them
use Rattle.std.specs.Prelude.{◌≡◌, ℕ, ◌+◌, ◌/◌, ◌%◌, ◌<◌, ◌≤◌, List, length, slice_index}
use Rattle.voice_units.specs.declared.shapes.Shape.{Shape}
use Rattle.voice_outside.specs.Disk.{Told, Now, Leaves}
use Rattle.voice_blocks.specs.Place.{block_place}

-- byte i of the disk lies in no block at one of these addresses
abbrev pub LiesOutside : Shape → List ℕ → ℕ → Type 0
LiesOutside shape addresses i = (k : ℕ) → k < length addresses → block_place shape (slice_index addresses k) ≤ i → ¬ (i < block_place shape (slice_index addresses k) + shape.block)

-- equal but for the blocks at these addresses
pub record SameOutside (shape : Shape) (addresses old new : List ℕ) : Type 0 where
  pub same_length : length new ≡ length old
  pub outside : (i : ℕ) → LiesOutside shape addresses i → slice_index new i ≡ slice_index old i

-- what a crash may leave after, or in, writes into the blocks at these addresses
abbrev pub IsTornAt : Shape → List ℕ → Told → List ℕ → Type 0
IsTornAt shape addresses old image = (from : List ℕ) × old.may_leave old.calls from × SameOutside shape addresses from image

-- what was written, or may be left by a crash, lies in the blocks at these addresses
pub record WroteAt (shape : Shape) (addresses : List ℕ) (old new : Told) : Type 0 where
  pub bytes : SameOutside shape addresses old.bytes new.bytes
  pub now : Now new (IsTornAt shape addresses old)
  pub crash : Leaves old new (IsTornAt shape addresses old)

-- each address is below a number
abbrev pub AreBelow : ℕ → List ℕ → Type 0
AreBelow limit addresses = (k : ℕ) → k < length addresses → slice_index addresses k < limit

-- no address stands twice
abbrev pub AreDistinct : List ℕ → Type 0
AreDistinct addresses = (j k : ℕ) → j < length addresses → k < length addresses → slice_index addresses j ≡ slice_index addresses k → j ≡ k

-- where byte k of a recording stands that lies in the blocks at these addresses
abbrev pub byte_place : Shape → List ℕ → ℕ → ℕ
byte_place shape addresses k = block_place shape (slice_index addresses (k / shape.block)) + k % shape.block

-- the first n bytes of these blocks, in order, are these bytes, and zeros behind them
abbrev pub Holds : Shape → List ℕ → List ℕ → ℕ → List ℕ → Type 0
Holds shape addresses bytes n image = (k : ℕ) → k < n → slice_index image (byte_place shape addresses k) ≡ slice_index bytes k
