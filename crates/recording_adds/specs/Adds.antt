-- An Add of n bytes to the open recording of a lane.
--     blocks_more block total n, whole_more block total n      how many blocks more a recording takes with n bytes more;  how many blocks become whole
--     HoldsBlocks shape lane total parts      parts of a running manager of this shape, whose lane has an open recording with the blocks of so many bytes
--     IsOpenTo holders lane from a      an address is free, or that of a block of the lane's open recording, from an index on
--     WroteOwn shape holders lane from old new      what was written, or may be left by a crash, lies in blocks at such addresses of the disk
--     HasWhole shape image holders lane bytes      the addresses of the whole blocks of the lane's open recording have their bytes
--     MakesCalls most old new      what it does to the counts of a disk
--     OnAdded, OnFault, OnNone      what holds where bytes were added;  where a device call failed;  where they were not added
use Rattle.std.specs.Prelude.{◌≡◌, ◌⊎◌, ℕ, ◌+◌, ◌-◌, ◌*◌, ◌/◌, ◌<◌, ◌≤◌, Bool, true, false, List, length, slice_index, Some, None, Result, Ok, Err}
use Rattle.voice_units.specs.Blocks.{blocks_for}
use Rattle.voice_units.specs.declared.pieces.Piece.{Piece}
use Rattle.voice_units.specs.declared.shapes.Shape.{Shape}
use Rattle.voice_model.specs.Replay.{Rebuilt}
use Rattle.voice_outside.specs.Disk.{Told}
use Rattle.voice_blocks.specs.Holders.{Holders, holder_at, block_of}
use Rattle.voice_blocks.specs.Place.{block_place}
use Rattle.voice_blocks.specs.declared.owner.Owner.TheVariants.{Taking}
use Rattle.recovery.specs.declared.parts.Parts.{Parts}
use Rattle.recording_writer.specs.Wrote.{WroteAt, AreBelow}
use Rattle.running_tables.specs.Running.{Runs, taken}

-- how many blocks more a recording of so many bytes takes with n bytes more
abbrev pub blocks_more : ℕ → ℕ → ℕ → ℕ
blocks_more block total n = blocks_for block (total + n) - blocks_for block total

-- how many of its blocks become whole
abbrev pub whole_more : ℕ → ℕ → ℕ → ℕ
whole_more block total n = (total + n) / block - total / block

-- parts of a running manager of this shape, whose lane has an open recording with the blocks of so many bytes
pub record HoldsBlocks (shape : Shape) (lane total : ℕ) (parts : Parts) : Type 0 where
  pub held : List (List Piece)
  pub pledged : List (List Piece)
  pub takings : List ℕ
  pub what : Rebuilt
  pub runs : Runs held pledged takings parts what
  pub in_shape : what.shape ≡ shape
  pub blocks : taken takings lane ≡ blocks_for shape.block total

-- an address is free, or that of a block of the lane's open recording, from an index on
abbrev pub IsOpenTo : Holders → ℕ → ℕ → ℕ → Type 0
IsOpenTo holders lane from a = (holder_at holders a ≡ None) ⊎ ((index : ℕ) × (from ≤ index) × (holder_at holders a ≡ Some (block_of (Taking lane) index)))

-- what was written, or may be left by a crash, lies in blocks at such addresses
pub record WroteOwn (shape : Shape) (holders : Holders) (lane from : ℕ) (old new : Told) : Type 0 where
  pub addresses : List ℕ
  pub own : (k : ℕ) → k < length addresses → IsOpenTo holders lane from (slice_index addresses k)
  pub below : AreBelow (length holders) addresses
  pub wrote : WroteAt shape addresses old new

-- the addresses of the whole blocks of the lane's open recording, of these bytes, have the bytes from the block's first one on
abbrev pub HasWhole : Shape → List ℕ → Holders → ℕ → List ℕ → Type 0
HasWhole shape image holders lane bytes =
    (a index k : ℕ) → holder_at holders a ≡ Some (block_of (Taking lane) index) → index < length bytes / shape.block → k < shape.block
    → slice_index image (block_place shape a + k) ≡ slice_index bytes (index * shape.block + k)

-- what it does to the counts of a disk, by so many device calls at most
pub record MakesCalls (most : ℕ) (old new : Told) : Type 0 where
  pub size : new.size ≡ old.size
  pub honest : new.honest ≡ old.honest
  pub later : old.calls ≤ new.calls
  pub calls : new.calls ≤ old.calls + most
  pub faults : old.faults ≤ new.faults

-- where bytes were added
abbrev pub OnAdded : {E : Type 0} → Result Bool E → Type 0 → Type 0
OnAdded (Ok true) P = P
OnAdded (Ok false) P = Unit {0}
OnAdded (Err e) P = Unit {0}

-- where a device call failed
abbrev pub OnFault : {E : Type 0} → Result Bool E → Type 0 → Type 0
OnFault (Ok true) P = Unit {0}
OnFault (Ok false) P = P
OnFault (Err e) P = Unit {0}

-- where they were not added
abbrev pub OnNone : {E : Type 0} → Result Bool E → Type 0 → Type 0
OnNone (Ok true) P = Unit {0}
OnNone (Ok false) P = P
OnNone (Err e) P = P
