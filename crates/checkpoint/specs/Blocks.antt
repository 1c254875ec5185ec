-- The blocks of a base, as the program goes over them.
--     name_of pair, pair_named name, name_cmp      a block as the program names it, and back;  the program's own order
--     is_noted names pair      whether a block is noted
--     spots_in_ropes ropes      the places of the samples of ropes
--     place_of_block, pair_of_block      a block and its address, as places and as files have it
--     names_of places      the blocks of places
--     IsHeld holders place      a place's address holds its block
--     file_of file placed      a file with these blocks
--     run_in file placed      how many blocks in front are of a file
--     parts_change form id idle last pieces, kept_change form rope      the change that spells the rope of these parts;  a rope of the table
--     above id ropes      the ropes with a number above this one
use Rattle.std.specs.Prelude.{◌≡◌, ℕ, zero, suc, Bool, cond, ◌==◌, nat_lt, List, [], ◌∷◌, map, filter, flat_map, Some}
use Rattle.std.specs.BTreeSet.{BTreeSet, contains}
use Rattle.std.specs.declared.cmp.Ordering.{Ordering}
use Rattle.voice_units.specs.Spots.{Spot, spots_of}
use Rattle.voice_units.specs.Blocks.{BlockPair}
use Rattle.voice_units.specs.declared.pieces.Piece.{Piece}
use Rattle.voice_model.specs.Replay.{Placed}
use Rattle.voice_model.specs.Base.{FileBlocks}
use Rattle.voice_model.specs.declared.lists.Pair.{Pair}
use Rattle.voice_model.specs.declared.changes.Change.{Change}
use Rattle.voice_model.specs.declared.changes.Change.TheVariants as changes
use Rattle.rope_table.specs.declared.ropes.Rope.{Rope}
use Rattle.voice_blocks.specs.Holders.{Holders, holder_at, block_of}
use Rattle.voice_blocks.specs.declared.owner.Owner.TheVariants.{File}
use Rattle.checkpoint.specs.declared.blocks.BlockName.{BlockName}
use Rattle.checkpoint.specs.declared.files.PlacedBlock.{PlacedBlock}
use Rattle.checkpoint.specs.contracts.blocks.BlockNameOrd.TheImpl as name_order

-- a block as the program names it
abbrev pub name_of : BlockPair → BlockName
name_of pair = record { file = pair.file; index = pair.index }

-- and back
abbrev pub pair_named : BlockName → BlockPair
pair_named name = record { file = name.file; index = name.index }

-- the program's own order
abbrev pub name_cmp : BlockName → BlockName → Ordering
name_cmp = (name_order.ghosts).cmp

-- whether a block is noted
abbrev pub is_noted : BTreeSet BlockName → BlockPair → Bool
is_noted names pair = contains name_cmp names (name_of pair)

-- the places of the samples of ropes
abbrev pub spots_in_ropes : List Rope → List Spot
spots_in_ropes ropes = flat_map (λ rope. spots_of rope.pieces) ropes

-- a block and its address, as places have it
abbrev pub place_of_block : PlacedBlock → Placed
place_of_block placed = record { pair = record { file = placed.file; index = placed.index }; address = placed.address }

-- and as files have it
abbrev pub pair_of_block : PlacedBlock → Pair
pair_of_block placed = record { index = placed.index; address = placed.address }

-- the blocks of places
abbrev pub names_of : List Placed → List BlockName
names_of places = map (λ (place : Placed). name_of place.pair) places

-- a place's address holds its block
abbrev pub IsHeld : Holders → Placed → Type 0
IsHeld holders place = holder_at holders place.address ≡ Some (block_of (File place.pair.file) place.pair.index)

-- a file with these blocks
abbrev pub file_of : ℕ → List PlacedBlock → FileBlocks
file_of file placed = record { file = file; pairs = map pair_of_block placed }

-- how many blocks in front are of a file
abbrev pub run_in : ℕ → List PlacedBlock → ℕ
run_in file [] = zero
run_in file (p ∷ ps) = cond (file == p.file) (suc (run_in file ps)) zero

-- the change that spells the rope of these parts
abbrev pub parts_change : ℕ → ℕ → ℕ → ℕ → List Piece → Change
parts_change form id idle last pieces = cond (form == 2) (changes.Rope2 id idle last pieces) (changes.Rope id idle pieces)

-- the change that spells a rope of the table
abbrev pub kept_change : ℕ → Rope → Change
kept_change form rope = parts_change form rope.id rope.idle rope.last rope.pieces

-- the ropes with a number above this one
abbrev pub above : ℕ → List Rope → List Rope
above id ropes = filter (λ rope. nat_lt id rope.id) ropes
