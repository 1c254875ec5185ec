-- Which blocks the frames of a store hold.
--     has_use s file index      a live rope or a held passage of a state has the block
--     KeepsUsed old new      the frames hold what they held, or that of it which a live rope or a held passage still has
--     KeepsFrames s t old new      no block came into a frame, and none left but one that nothing had after a landing, or has now
--     MovesFrames t old new      a block left its frame only for one that no frame held, or as nothing has it any more
--     HoldsWindow s lane resident fed      frames hold the blocks of the window that is handed out
--     HoldsBlock image holders s resident file index      a frame holds the bytes that the disk has at the block's address
use Rattle.std.specs.Prelude.{◌≡◌, ◌⊎◌, ℕ, ◌/◌, Bool, true, false, List, map, Option, None, Some}
use Rattle.voice_units.specs.declared.shapes.Shape.{Shape}
use Rattle.voice_units.specs.Blocks.{has_pair}
use Rattle.voice_units.specs.Spots.{slice}
use Rattle.voice_outside.specs.Disk.{segment}
use Rattle.voice_blocks.specs.Holders.{Holders, holder_at, block_of}
use Rattle.voice_blocks.specs.Place.{block_place}
use Rattle.voice_blocks.specs.declared.owner.Owner.TheVariants.{File}
use Rattle.voice_model.specs.Samples.{Tagged}
use Rattle.voice_model.specs.State.{State}
use Rattle.voice_model.specs.Room.{pairs_of, samples_in_use}
use Rattle.voice_model.specs.Valid.{Every}
use Rattle.rope_table.specs.Table.{pair_of}
use Rattle.frame_pool.specs.Pool.{KeeperState, frame_of}
use Rattle.playing.specs.declared.blocks.Block.{Block}
use Rattle.playing.specs.Frames.{FramesState, resident_at, is_resident, if_used, uses_of}
use Rattle.playing.specs.Moved.{IsReplaced}
use Rattle.lane_calls.specs.declared.outcomes.Fed.{Fed}
use Rattle.lane_calls.specs.declared.outcomes.Fed.TheVariants as feds
use Rattle.voice_store.specs.declared.inside.Inside.{Inside}
use Rattle.voice_store.specs.Feeding.{passage_at}

-- a live rope or a held passage of a state has the block, whatever is in doubt
abbrev pub has_use : State → ℕ → ℕ → Bool
has_use s file index = has_pair (pairs_of s.shape.block (samples_in_use (record s { doubt = None }))) (pair_of file index)

-- the frames hold what they held, or that of it which a live rope or a held passage still has
abbrev pub KeepsUsed : Inside → Inside → Type 0
KeepsUsed old new = (new.lanes.frames.resident ≡ old.lanes.frames.resident) ⊎ (new.lanes.frames.resident ≡ map (if_used (uses_of new.parts.ropes)) old.lanes.frames.resident)

-- no block came into a frame, and none left but one that nothing had in the one state, after a landing, or has in the other, after the call
pub record KeepsFrames (s t : State) (old new : List (Option Block)) : Type 0 where
  pub came : (f : ℕ) (d : Block) → resident_at new f ≡ Some d → resident_at old f ≡ Some d
  pub left : (f : ℕ) (d : Block) → resident_at old f ≡ Some d → (resident_at new f ≡ Some d) ⊎ ((has_use s d.file d.index ≡ false) ⊎ (has_use t d.file d.index ≡ false))

-- a block left its frame only for one that no frame held, or as nothing has it any more
abbrev pub MovesFrames : State → List (Option Block) → List (Option Block) → Type 0
MovesFrames t old new = (f : ℕ) (d : Block) → resident_at old f ≡ Some d → (resident_at new f ≡ Some d) ⊎ (IsReplaced old new f ⊎ (has_use t d.file d.index ≡ false))

-- frames hold the blocks of the window that is handed out, if one is, by the places of the first job's passage
abbrev pub HoldsWindow : State → ℕ → List (Option Block) → Fed → Type 0
HoldsWindow s lane resident (feds.Window at lease) = Every (λ (t : Tagged). is_resident resident t.file (t.place / s.shape.block) ≡ true) (slice (passage_at s lane) at lease.len)
HoldsWindow s lane resident _ = Unit {0}

-- a frame holds the bytes that the disk has at the block's address
pub record HoldsBlock (shape : Shape) (image : List ℕ) (holders : Holders) (frames : FramesState) (file index : ℕ) : Type 0 where
  pub frame : ℕ
  pub address : ℕ
  pub held : resident_at frames.resident frame ≡ Some (record { file = file; index = index })
  pub given : holder_at holders address ≡ Some (block_of (File file) index)
  pub bytes : frame_of frames.keeper frame ≡ segment image (block_place shape address) shape.block
