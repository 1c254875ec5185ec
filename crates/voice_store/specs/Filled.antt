-- What the blocks of voice files have on the disk.
--     IsFilled fill shape image holders      each address that is given to a block of a voice file has that block's bytes, filled in so
--     HaveBytes fill shape image holders s      so they have, and the whole blocks of open recordings have the bytes that were added
--     IsPadded image shape addresses n      zeros stand behind the first n bytes of the blocks at these addresses
use Rattle.std.specs.Prelude.{◌≡◌, ℕ, ◌+◌, ◌*◌, ◌≤◌, ◌<◌, List, length, slice_index, Some}
use Rattle.voice_units.specs.Spots.{Spot}
use Rattle.voice_units.specs.declared.shapes.Shape.{Shape}
use Rattle.voice_blocks.specs.Holders.{Holders, holder_at, block_of}
use Rattle.voice_blocks.specs.Place.{block_place}
use Rattle.voice_blocks.specs.declared.owner.Owner.TheVariants.{File}
use Rattle.voice_model.specs.Samples.{Tagged}
use Rattle.voice_model.specs.State.{State}
use Rattle.voice_model.specs.Changes.{taking_of}
use Rattle.recording_adds.specs.Adds.{HasWhole}
use Rattle.recording_writer.specs.Wrote.{byte_place}

-- each address that is given to a block of a voice file has that block's bytes, filled in so, behind the last sample too
pub record IsFilled (fill : Spot → Tagged) (shape : Shape) (image : List ℕ) (holders : Holders) : Type 0 where
  pub each : (a file index k : ℕ) → holder_at holders a ≡ Some (block_of (File file) index) → k < shape.block → slice_index image (block_place shape a + k) ≡ (fill (record { file = file; place = index * shape.block + k })).byte

-- each block that has an address has its bytes there: one of a voice file as it is filled in, a whole one of an open recording as it was added
pub record HaveBytes (fill : Spot → Tagged) (shape : Shape) (image : List ℕ) (holders : Holders) (s : State) : Type 0 where
  pub filled : IsFilled fill shape image holders
  pub whole : (lane : ℕ) → HasWhole shape image holders lane (taking_of s lane)

-- zeros stand behind the first n bytes of the blocks at these addresses
pub record IsPadded (image : List ℕ) (shape : Shape) (addresses : List ℕ) (n : ℕ) : Type 0 where
  pub each : (k : ℕ) → n ≤ k → k < length addresses * shape.block → slice_index image (byte_place shape addresses k) ≡ 0
