-- Where the samples of a rope stand on a disk.
--     pair_of block stretch      the block in which a stretch lies
--     IsPlace holders pair a, HasPlace holders pair      this address holds a block;  one does
--     HavePlaces block holders ss      each block of these samples has an address
--     ArePlaces block holders ss address      these are the addresses of the blocks of these samples
--     byte_on, bytes_on image shape address ss      the byte of a sample on a disk, by the addresses of blocks;  those of samples, in order
use Rattle.std.specs.Prelude.{◌≡◌, ℕ, ◌+◌, ◌/◌, ◌%◌, true, List, map, slice_index, Some}
use Rattle.voice_units.specs.declared.pieces.Piece.{Piece}
use Rattle.voice_units.specs.declared.shapes.Shape.{Shape}
use Rattle.voice_units.specs.Spots.{Spot}
use Rattle.voice_units.specs.Blocks.{BlockPair, pair_at, pairs_at, has_pair}
use Rattle.voice_blocks.specs.Holders.{Holders, holder_at, block_of}
use Rattle.voice_blocks.specs.declared.owner.Owner.TheVariants.{File}
use Rattle.voice_blocks.specs.Place.{block_place}

-- the block in which a stretch lies
abbrev pub pair_of : ℕ → Piece → BlockPair
pair_of block stretch = record { file = stretch.file; index = stretch.from / block }

-- an address holds a block
abbrev pub IsPlace : Holders → BlockPair → ℕ → Type 0
IsPlace holders pair a = holder_at holders a ≡ Some (block_of (File pair.file) pair.index)

-- some address holds a block
abbrev pub HasPlace : Holders → BlockPair → Type 0
HasPlace holders pair = (a : ℕ) × IsPlace holders pair a

-- each block of these samples has an address
abbrev pub HavePlaces : ℕ → Holders → List Spot → Type 0
HavePlaces block holders ss = (pair : BlockPair) → has_pair (pairs_at block ss) pair ≡ true → HasPlace holders pair

-- these are the addresses of the blocks of these samples
abbrev pub ArePlaces : ℕ → Holders → List Spot → (BlockPair → ℕ) → Type 0
ArePlaces block holders ss address = (pair : BlockPair) → has_pair (pairs_at block ss) pair ≡ true → IsPlace holders pair (address pair)

-- the byte of a sample on a disk, by the addresses of blocks
abbrev pub byte_on : List ℕ → Shape → (BlockPair → ℕ) → Spot → ℕ
byte_on image shape address s = slice_index image (block_place shape (address (pair_at shape.block s)) + s.place % shape.block)

-- those of samples, in order
abbrev pub bytes_on : List ℕ → Shape → (BlockPair → ℕ) → List Spot → List ℕ
bytes_on image shape address ss = map (byte_on image shape address) ss
