-- What a disk in memory tells.
--     mem_told disk      what it tells
--     IsFresh      a disk that made no call
--     listed_calls, starved_calls, FailsAsListed, StarvesOnce      which calls fail
--     HasSpare      its record of calls has room for one more
use Rattle.std.specs.Prelude.{◌≡◌, ◌⊎◌, ◌+◌, ◌-◌, ◌^◌, ◌<◌, ◌≤◌, ℕ, List, length, reverse, true, Contains, Result, IsErr, OnOk, vec_len}
use Rattle.std.specs.Vec.{vec_capacity}
use Rattle.voice_outside.specs.Disk.{Told}
use Rattle.voice_disk.specs.Replay.{left_since}
use Rattle.voice_disk.specs.declared.record.Entry.{Entry}
use Rattle.voice_disk.specs.declared.memory.MemDisk.{MemDisk}

-- what these counts, bytes and calls, the newest first, tell
abbrev pub tells : ℕ → ℕ → List ℕ → List ℕ → List Entry → Told
tells calls faults bytes first log = record { size = length bytes; calls = calls; faults = faults; honest = true; bytes = bytes; may_leave = left_since first log }

-- what it tells
abbrev pub mem_told : MemDisk → Told
mem_told disk = tells disk.calls disk.faults disk.bytes.items disk.first.items (reverse disk.log.items)

-- a disk that made no call
pub record IsFresh (disk : Told) (bytes : List ℕ) : Type 0 where
  pub size : disk.size ≡ length bytes
  pub calls : disk.calls ≡ 0
  pub faults : disk.faults ≡ 0
  pub honest : disk.honest ≡ true
  pub bytes_are : disk.bytes ≡ bytes
  pub images : (t : ℕ) (image : List ℕ) → disk.may_leave t image → image ≡ bytes

-- the numbers of the calls that fail, from 1
abbrev pub listed_calls : MemDisk → List ℕ
listed_calls disk = disk.fails.items

-- how many calls that were to be done found no memory for the record
abbrev pub starved_calls : MemDisk → ℕ
starved_calls disk = disk.starved

-- A call fails where its number is listed, or it found no memory, or no number is left; and nowhere else. The list stays.
pub record FailsAsListed {T E : Type 0} (old new : MemDisk) (result : Result T E) : Type 0 where
  pub listed : Contains (listed_calls old) (old.calls + 1) → IsErr result
  pub hungry : starved_calls old < starved_calls new → IsErr result
  pub spent : 2 ^ 64 - 1 ≤ old.calls → IsErr result
  pub only : IsErr result → Contains (listed_calls old) (old.calls + 1) ⊎ ((starved_calls old < starved_calls new) ⊎ (2 ^ 64 - 1 ≤ old.calls))
  pub list_stays : listed_calls new ≡ listed_calls old

-- The count of calls that found no memory rises by one at most, and only on a call that fails and whose number isn't listed.
pub record StarvesOnce {T E : Type 0} (old new : MemDisk) (result : Result T E) : Type 0 where
  pub later : starved_calls old ≤ starved_calls new
  pub once : starved_calls new ≤ starved_calls old + 1
  pub done : OnOk result (starved_calls new ≡ starved_calls old)
  pub listed : Contains (listed_calls old) (old.calls + 1) → starved_calls new ≡ starved_calls old
  pub last : 2 ^ 64 - 1 ≤ old.calls → starved_calls new ≡ starved_calls old

-- the record of its calls has room for one more
abbrev pub HasSpare : MemDisk → Type 0
HasSpare disk = vec_len disk.log < vec_capacity disk.log
