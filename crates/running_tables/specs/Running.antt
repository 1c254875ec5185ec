-- What the tables of a running manager show.
--     taken takings lane      how many blocks the open recording of a lane has taken
--     is_wanted pairs others takings owner index      whether a block is one of these, one of other lists, or one of an open recording
--     code_of owner index, given holders      a block by numbers;  the blocks that have an address, so
--     IsGiven holders h      some address is given to the block
--     GivesJust holders pairs others takings      each address that is given out is that of a wanted block, no block has two, and each block of other lists and of open recordings has one
--     Runs held pledged takings parts b      the tables show what was rebuilt while passages are held, the pieces of a change in doubt are pledged, and recordings are open
--     AreRunning shape parts      parts of a running manager of this shape, with nothing pledged
--     AtRest shape parts      the same while no passage is held and no recording is open
--     passages_of lanes, takings_of block lanes      the passages of unstopped jobs;  how many blocks open recordings have taken
--     held_in s, pledged_in s, takings_in s      what a state holds
--     RunsState parts b s      the tables show a state, by what was rebuilt
use Rattle.std.specs.Prelude.{◌≡◌, ℕ, ◌+◌, ◌*◌, ◌<◌, Bool, true, not, ◌||◌, nat_lt, List, [], ◌∷◌, ◌++◌, map, filter, flat_map, length, slice_index_or, Some, None}
use Rattle.voice_units.specs.Blocks.{BlockPair, has_pair}
use Rattle.voice_units.specs.Spots.{pieces_of}
use Rattle.voice_units.specs.declared.pieces.Piece.{Piece}
use Rattle.voice_units.specs.declared.shapes.Shape.{Shape}
use Rattle.voice_model.specs.Replay.{Rebuilt, used_pairs}
use Rattle.voice_model.specs.Samples.{spot_of}
use Rattle.voice_model.specs.State.{State, LaneState}
use Rattle.voice_model.specs.Room.{taking_blocks, held_by_doubt}
use Rattle.voice_model.specs.Places.{IsPlaced, AllUsed}
use Rattle.voice_model.specs.Valid.{Every, IsRebuilt}
use Rattle.voice_blocks.specs.Holders.{Holders, holder_at, block_of}
use Rattle.voice_blocks.specs.declared.owner.Owner.{Owner}
use Rattle.voice_blocks.specs.declared.owner.Owner.TheVariants.{File, Taking}
use Rattle.voice_blocks.specs.declared.owner.Holder.{Holder}
use Rattle.rope_table.specs.Table.{pairs_in, pair_of}
use Rattle.recovery.specs.declared.parts.Parts.{Parts}
use Rattle.recovery.specs.Shown.{Shows, plain_sample}
use Rattle.checkpoint.specs.Blocks.{IsHeld}

-- how many blocks the open recording of a lane has taken
abbrev pub taken : List ℕ → ℕ → ℕ
taken takings lane = slice_index_or takings lane 0

-- whether a block is one of these, one of other lists, or one of an open recording
abbrev pub is_wanted : List BlockPair → List BlockPair → List ℕ → Owner → ℕ → Bool
is_wanted pairs others takings (File file) index = has_pair pairs (pair_of file index) || has_pair others (pair_of file index)
is_wanted pairs others takings (Taking lane) index = nat_lt index (taken takings lane)

-- a block by numbers: even ones for files, odd ones for lanes
abbrev pub code_of : Owner → ℕ → BlockPair
code_of (File file) index = record { file = 2 * file; index = index }
code_of (Taking lane) index = record { file = 2 * lane + 1; index = index }

-- the blocks that have an address
abbrev pub given : Holders → List BlockPair
given [] = []
given (None ∷ hs) = given hs
given (Some h ∷ hs) = code_of h.owner h.index ∷ given hs

-- some address is given to the block
abbrev pub IsGiven : Holders → Holder → Type 0
IsGiven holders h = (a : ℕ) × (holder_at holders a ≡ Some h)

-- each address that is given out is that of a wanted block, no block has two, and each block of other lists and of open recordings has one
pub record GivesJust (holders : Holders) (pairs others : List BlockPair) (takings : List ℕ) : Type 0 where
  pub only : (a : ℕ) (h : Holder) → holder_at holders a ≡ Some h → is_wanted pairs others takings h.owner h.index ≡ true
  pub single : (a c : ℕ) (h : Holder) → holder_at holders a ≡ Some h → holder_at holders c ≡ Some h → a ≡ c
  pub passages : (pair : BlockPair) → has_pair others pair ≡ true → IsGiven holders (block_of (File pair.file) pair.index)
  pub recordings : (lane index : ℕ) → index < taken takings lane → IsGiven holders (block_of (Taking lane) index)

-- the tables show what was rebuilt while passages are held, the pieces of a change in doubt are pledged, and recordings are open
pub record Runs (held pledged : List (List Piece)) (takings : List ℕ) (parts : Parts) (b : Rebuilt) : Type 0 where
  pub kept : Shows held parts b.kept
  pub size : length parts.blocks.holders ≡ b.shape.blocks
  pub addresses : Every (IsHeld parts.blocks.holders) b.places
  pub given : GivesJust parts.blocks.holders (used_pairs b.kept) (pairs_in b.shape.block (held ++ pledged)) takings
  pub below : Every (λ pair. pair.file < b.next) (pairs_in b.shape.block held)
  pub in_form : parts.form ≡ b.form
  pub valid : IsRebuilt plain_sample b
  pub placed : IsPlaced b
  pub used : AllUsed b

-- parts of a running manager of this shape, with nothing pledged
pub record AreRunning (shape : Shape) (parts : Parts) : Type 0 where
  pub held : List (List Piece)
  pub takings : List ℕ
  pub what : Rebuilt
  pub runs : Runs held [] takings parts what
  pub in_shape : what.shape ≡ shape

-- the same while no passage is held and no recording is open
pub record AtRest (shape : Shape) (parts : Parts) : Type 0 where
  pub what : Rebuilt
  pub runs : Runs [] [] [] parts what
  pub in_shape : what.shape ≡ shape

-- ---- what a state holds

-- the passages of jobs that are not stopped
abbrev pub passages_of : List LaneState → List (List Piece)
passages_of lanes = flat_map (λ lane. map (λ job. pieces_of (map spot_of job.passage)) (filter (λ job. not job.stopped) lane.jobs)) lanes

-- how many blocks the open recording of each lane has taken
abbrev pub takings_of : ℕ → List LaneState → List ℕ
takings_of block lanes = map (λ lane. taking_blocks block lane.taking) lanes

-- the passages of a state's jobs that are not stopped
abbrev pub held_in : State → List (List Piece)
held_in s = passages_of s.lanes

-- the pieces that a change in doubt brings
abbrev pub pledged_in : State → List (List Piece)
pledged_in s = pieces_of (map spot_of (held_by_doubt s.doubt)) ∷ []

-- how many blocks the open recording of each lane has taken
abbrev pub takings_in : State → List ℕ
takings_in s = takings_of s.shape.block s.lanes

-- the tables show a state, by what was rebuilt
abbrev pub RunsState : Parts → Rebuilt → State → Type 0
RunsState parts b s = Runs (held_in s) (pledged_in s) (takings_in s) parts b
