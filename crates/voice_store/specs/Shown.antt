-- What contracts see of a store.
--     Shown      its disk, the disk as it was opened, what it keeps besides, which is named in this crate alone, and whether memory was wanted since it was opened
--     history_of s, tapes_in s, block_of s      its history, its tapes, the length of a block
--     pool_of s, lanes_in s      which pool its leases are of;  how many lanes it has
--     frames_in s      the block that each frame holds
--     HasBlock image s file index      a frame holds the bytes that the disk has of a block
--     HasRoomFor n s      the history takes so many entries more without memory
--     FaultsCover low history high      there are at most so many entries of faults as faults rose, unless their count is at its end
--     Stands first origin disk inside wanted      the store was opened in this state, and all its history is legal from it and held; and its entries came in short turns, unless memory was wanted
--     IsWhole origin disk inside wanted      the store stands for some history
--     Keeps told first s      the same, of what contracts see
--     state_of first s      the state after the history
use Rattle.std.specs.Prelude.{◌≡◌, ℕ, ◌+◌, ◌-◌, ◌^◌, ◌<◌, ◌≤◌, Bool, false, List, Option, count_by, vec_len, vec_capacity}
use Rattle.std.specs.Arc.{arc_value}
use Rattle.voice_outside.specs.Disk.{Told}
use Rattle.frame_pool.specs.Pool.{Identity}
use Rattle.playing.specs.declared.blocks.Block.{Block}
use Rattle.voice_model.specs.State.{State}
use Rattle.voice_model.specs.declared.calls.Entry.{Entry}
use Rattle.voice_store.specs.Stood.{Stood, is_fault, last_state, tapes_of}
use Rattle.voice_store.specs.Turns.{ShortTurns}
use Rattle.voice_store.specs.Residing.{HoldsBlock}
use Rattle.voice_store.specs.declared.inside.Inside.{Inside}

pub record Shown (D : Type 0) : Type 0 where
  pub disk : D
  pub origin : D
  pub inside : Inside
  pub wanted : Bool

-- there are at most so many entries of faults as faults rose, unless their count is at its end
abbrev pub FaultsCover : ℕ → List Entry → ℕ → Type 0
FaultsCover low history high = high < 2 ^ 64 - 1 → low + count_by is_fault history ≤ high

-- the store was opened in this state, its history is legal from it, on a disk that isn't honest but for the talk and peaks that were read off it, and what a crash may leave since an entry is that entry's state or a later one
pub record Stands (first : State) (origin disk : Told) (inside : Inside) (wanted : Bool) : Type 0 where
  pub stood : Stood first (origin.calls + 1) disk inside
  pub faults : FaultsCover origin.faults inside.history.items disk.faults
  pub size : disk.size ≡ origin.size
  pub honest : disk.honest ≡ origin.honest
  -- each entry came within the device calls that it may take, while memory was never wanted; opening takes five at most
  pub turns : wanted ≡ false → ShortTurns first (tapes_of inside) (origin.calls + 5) inside.history.items disk.calls

-- the store stands for some history
pub record IsWhole (origin disk : Told) (inside : Inside) (wanted : Bool) : Type 0 where
  pub first : State
  pub stands : Stands first origin disk inside wanted

module _ {D : Type 0} where
  abbrev pub history_of : Shown D → List Entry
  history_of s = s.inside.history.items

  abbrev pub tapes_in : Shown D → List (List ℕ)
  tapes_in s = arc_value s.inside.tapes

  -- the length of a block
  abbrev pub block_of : Shown D → ℕ
  block_of s = s.inside.journal.shape.block

  -- which pool its leases are of
  abbrev pub pool_of : Shown D → Identity
  pool_of s = s.inside.lanes.frames.keeper.pool

  -- the block that each frame holds
  abbrev pub frames_in : Shown D → List (Option Block)
  frames_in s = s.inside.lanes.frames.resident

  -- a frame holds the bytes that the disk has of a block
  abbrev pub HasBlock : List ℕ → Shown D → ℕ → ℕ → Type 0
  HasBlock image s file index = HoldsBlock s.inside.journal.shape image s.inside.parts.blocks.holders s.inside.lanes.frames file index

  -- how many lanes it has
  abbrev pub lanes_in : Shown D → ℕ
  lanes_in s = s.inside.journal.shape.lanes

  -- the history takes so many entries more without memory
  abbrev pub HasRoomFor : ℕ → Shown D → Type 0
  HasRoomFor n s = vec_len s.inside.history + n ≤ vec_capacity s.inside.history

  -- the store was opened in this state, and all its history is legal from it and held
  abbrev pub Keeps : (D → Told) → State → Shown D → Type 0
  Keeps told first s = Stands first (told s.origin) (told s.disk) s.inside s.wanted

  -- the state after the history
  abbrev pub state_of : State → Shown D → State
  state_of first s = last_state first (tapes_in s) (history_of s)
