-- How large a base is, by a few numbers of what it spells.
--     live_blocks table, live_files table      the blocks that live ropes use, each once;  their files, each once
--     numbers_of table rows      the numbers of a base of these ropes and rows
--     size_by_numbers form n      the framed size of a base with these numbers
--     pieces_of_live ropes, numbers_in d      the same of a durable part
--     AreSmall n      the numbers are of tables of fewer than 2^32 blocks, ropes and rows each
use Rattle.std.specs.Prelude.{ℕ, Bool, ◌+◌, ◌*◌, ◌^◌, ◌≤◌, ◌<◌, cond, ◌==◌, List, [], ◌∷◌, ◌++◌, map, length}
use Rattle.std.specs.List.{list_any}
use Rattle.voice_units.specs.declared.pieces.Piece.{Piece}
use Rattle.voice_units.specs.Spots.{spots_of}
use Rattle.voice_units.specs.Blocks.{BlockPair, pairs_at, distinct}
use Rattle.voice_model.specs.Samples.{Tagged}
use Rattle.voice_model.specs.Samples as samples
use Rattle.voice_model.specs.State.{Durable, Live}
use Rattle.voice_model.specs.Changes.{address_size, each_once, live_pairs}
use Rattle.voice_model.specs.declared.calls.Row.{Row}
use Rattle.rope_table.specs.declared.ropes.Rope.{Rope}
use Rattle.rope_table.specs.Table.{Table, pieces_in, pairs_in, files_of, piece_count}
use Rattle.interest_table.specs.Table.{key_bytes_of, note_bytes_of}
use Rattle.checkpoint.specs.declared.sizes.BaseNumbers.{BaseNumbers}

-- the blocks that live ropes use, each once
abbrev pub live_blocks : Table → List BlockPair
live_blocks table = distinct (pairs_in table.block (pieces_in table.ropes))

-- the files of the blocks that live ropes use, each once
abbrev pub live_files : Table → List ℕ
live_files table = files_of (pairs_in table.block (pieces_in table.ropes))

-- the numbers of a base of these ropes and rows
abbrev pub numbers_of : Table → List Row → BaseNumbers
numbers_of table rows = record {
  files = length (live_files table);
  blocks = length (live_blocks table);
  ropes = length table.ropes;
  pieces = piece_count table.ropes;
  rows = length rows;
  key_bytes = key_bytes_of rows;
  note_bytes = note_bytes_of rows;
}

-- a head, a record for each file with its blocks, for each rope with its pieces, and for each row
abbrev pub size_by_numbers : ℕ → BaseNumbers → ℕ
size_by_numbers form n =
    22
    + (18 * n.files + (4 + address_size form) * n.blocks)
    + ((24 + cond (form == 2) 1 0) * n.ropes + 16 * n.pieces)
    + (17 * n.rows + n.key_bytes + n.note_bytes)

-- how many pieces the ropes of a durable part have
abbrev pub pieces_of_live : List (Live Tagged) → ℕ
pieces_of_live [] = 0
pieces_of_live (rope ∷ ropes) = length (samples.pieces_in rope.samples) + pieces_of_live ropes

-- the numbers of the base of a durable part
abbrev pub numbers_in : Durable Tagged → BaseNumbers
numbers_in d = record {
  files = length (each_once (map (λ pair. pair.file) (live_pairs d)));
  blocks = length (live_pairs d);
  ropes = length d.ropes;
  pieces = pieces_of_live d.ropes;
  rows = length d.rows;
  key_bytes = key_bytes_of d.rows;
  note_bytes = note_bytes_of d.rows;
}

-- the numbers are of tables of fewer than 2^32 blocks, ropes and rows each, of at most 4,096 pieces a rope, 64 bytes a key and 128 a note
pub record AreSmall (n : BaseNumbers) : Type 0 where
  pub files : n.files ≤ n.blocks
  pub blocks : n.blocks < 2 ^ 32
  pub ropes : n.ropes < 2 ^ 32
  pub pieces : n.pieces ≤ 4096 * n.ropes
  pub rows : n.rows < 2 ^ 32
  pub key_bytes : n.key_bytes ≤ 64 * n.rows
  pub note_bytes : n.note_bytes ≤ 128 * n.rows
