-- What a disk tells that stops.
--     fuse_told disk      what it tells
--     calls_left, behind_fuse      how many calls it still passes;  the disk behind it
--     IsFused      it tells what the disk behind it tells, but for the faults
use Rattle.std.specs.Prelude.{◌≡◌, ◌≤◌, ◌↔◌, ℕ, List, length, reverse, min}
use Rattle.std.proofs.Common.{arith}
use Rattle.voice_outside.specs.Disk.{Told}
use Rattle.voice_disk.specs.Laws.{since_earlier, since_bytes, sized_bytes}
use Rattle.voice_disk.specs.Memory.{mem_told}
use Rattle.voice_disk.specs.declared.fuse.FuseDisk.{FuseDisk}
use Rattle.voice_disk.specs.declared.memory.MemDisk.{MemDisk}

-- a moment after the last call that went through is the moment of that call
abbrev pub stopped : Told → ℕ → ℕ → Told
stopped inner calls faults = record { size = inner.size; calls = calls; faults = faults; honest = inner.honest; bytes = inner.bytes; may_leave = λ t image. inner.may_leave (min t inner.calls) image }

-- what it tells
abbrev pub fuse_told : FuseDisk → Told
fuse_told disk = stopped (mem_told disk.inner) disk.calls disk.faults

-- how many calls it still passes
abbrev pub calls_left : FuseDisk → ℕ
calls_left disk = disk.left

-- the disk behind it
abbrev pub behind_fuse : FuseDisk → MemDisk
behind_fuse disk = disk.inner

-- a disk as it is put behind a fuse: the same but for the faults, of which none was met yet
pub record IsFused (inner fused : Told) : Type 0 where
  pub size : fused.size ≡ inner.size
  pub calls : fused.calls ≡ inner.calls
  pub faults : fused.faults ≡ 0
  pub honest : fused.honest ≡ inner.honest
  pub bytes : fused.bytes ≡ inner.bytes
  pub images : (t : ℕ) (image : List ℕ) → t ≤ inner.calls → fused.may_leave t image ↔ inner.may_leave t image

pub fuse_since : (disk : FuseDisk) (t u : ℕ) (image : List ℕ) → t ≤ u → (fuse_told disk).may_leave u image → (fuse_told disk).may_leave t image
fuse_since disk t u image le left = since_earlier disk.inner.first.items (reverse disk.inner.log.items) (min t disk.inner.calls) (min u disk.inner.calls) image (omega arith) left

pub fuse_present : (disk : FuseDisk) → (fuse_told disk).may_leave (fuse_told disk).calls (fuse_told disk).bytes
fuse_present disk = since_bytes disk.inner.first.items disk.inner.bytes.items (reverse disk.inner.log.items) (min disk.calls disk.inner.calls) disk.inner.replayed

pub fuse_sized : (disk : FuseDisk) (t : ℕ) (image : List ℕ) → (fuse_told disk).may_leave t image → length image ≡ (fuse_told disk).size
fuse_sized disk t image left = sized_bytes disk.inner.first.items disk.inner.bytes.items (reverse disk.inner.log.items) (min t disk.inner.calls) image disk.inner.replayed left
