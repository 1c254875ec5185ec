-- An open recording that is to end.
--     HasTaken shape lane len parts      parts of a running manager of this shape, with nothing pledged, whose lane has an open recording with the blocks of so many samples
--     IsEnding held takings lane parts b next c      the rope of a lane's open recording is made ready while its blocks are still those of the recording
use Rattle.std.specs.Prelude.{◌≡◌, ℕ, ◌+◌, ◌≤◌, ◌<◌, ◌^◌, true, List, [], is_some}
use Rattle.voice_units.specs.declared.pieces.Piece.{Piece}
use Rattle.voice_units.specs.declared.shapes.Shape.{Shape}
use Rattle.voice_units.specs.Spots.{spots_of, samples_in, pieces_of}
use Rattle.voice_units.specs.Blocks.{BlockPair, pairs_at, has_pair, blocks_for}
use Rattle.voice_model.specs.Spelling.{spelling, keeps_grammar}
use Rattle.voice_model.specs.Replay.{Rebuilt, is_legal, brings}
use Rattle.voice_model.specs.declared.changes.Change.{Change}
use Rattle.voice_blocks.specs.declared.owner.Owner.TheVariants.{Taking}
use Rattle.rope_table.specs.Table.{new_pairs, uses_at}
use Rattle.recovery.specs.declared.parts.Parts.{Parts}
use Rattle.running_tables.specs.Running.{Runs, taken}
use Rattle.next_ropes.specs.Ready.{next_change, new_samples}
use Rattle.next_ropes.specs.declared.NextRope.{NextRope}
use Rattle.open_recordings.specs.Blocks.{AreAddresses}

-- parts of a running manager of this shape, with nothing pledged, whose lane has an open recording with the blocks of so many samples
pub record HasTaken (shape : Shape) (lane len : ℕ) (parts : Parts) : Type 0 where
  pub held : List (List Piece)
  pub takings : List ℕ
  pub what : Rebuilt
  pub runs : Runs held [] takings parts what
  pub in_shape : what.shape ≡ shape
  pub blocks : taken takings lane ≡ blocks_for shape.block len

-- the tables show what was rebuilt while passages are held and recordings are open; the rope is one of all blocks of the lane's open recording, in rising index; its change is legal, and there is room for it
pub record IsEnding (held : List (List Piece)) (takings : List ℕ) (lane : ℕ) (parts : Parts) (b : Rebuilt) (next : NextRope) (c : Change) : Type 0 where
  pub runs : Runs held [] takings parts b
  pub recorded : next.recorded ≡ true
  pub blocks : taken takings lane ≡ blocks_for b.shape.block (samples_in next.pieces)
  pub addresses : AreAddresses parts.blocks.holders (Taking lane) 0 (taken takings lane) next.addresses.items
  pub legal : is_legal b c ≡ true
  pub kind : is_some (brings c) ≡ true
  pub grammar : keeps_grammar c ≡ true
  pub change : c ≡ next_change b.form next
  pub number : next.id ≡ b.next
  pub pieces : next.pieces ≡ pieces_of (new_samples c)
  pub payload : next.payload.items ≡ spelling c
  pub room : 1 ≤ parts.ropes.spare_ropes
  pub pairs : new_pairs parts.ropes next.pieces ≤ parts.ropes.spare_pairs
  pub fits : (pair : BlockPair) → has_pair (pairs_at parts.ropes.block (spots_of next.pieces)) pair ≡ true → uses_at parts.ropes pair + 1 < 2 ^ 32
