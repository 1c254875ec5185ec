-- What a call does that a fuse doesn't pass.
use Rattle.std.proofs.Common.{◌≡◌, inl, ℕ, ◌≤◌, List, length, refl, sym, subst, arith, min, reverse, Err}
use Rattle.voice_outside.specs.Disk.{WritesAt, AgreesOutside}
use Rattle.voice_disk.specs.Laws.{since_earlier}
use Rattle.voice_disk.specs.Memory.{mem_told}
use Rattle.voice_disk.specs.Fuse.{fuse_told, stopped}
use Rattle.voice_disk.specs.declared.fuse.FuseDisk.{FuseDisk}
use Rattle.voice_disk.specs.declared.memory.MemDisk.{MemDisk}

same : (at n : ℕ) (image : List ℕ) → AgreesOutside at n image image
same at n image = record { same_length = refl; before = λ i lt. refl; after = λ i le. refl }

pub write_stopped : {T E : Type 0} (disk : FuseDisk) (inner : MemDisk) (calls faults at : ℕ) (bytes : List ℕ) (e : E) → inner ≡ disk.inner → disk.calls ≤ calls
    → WritesAt {T = T} {E = E} at bytes (fuse_told disk) (stopped (mem_told inner) calls faults) (Err e)
write_stopped {T} {E} disk inner calls faults at bytes e is later =
    let mem = disk.inner in
    let since : min disk.calls mem.calls ≤ min calls mem.calls = omega arith in
    subst (λ (i : MemDisk). WritesAt {T = T} {E = E} at bytes (fuse_told disk) (stopped (mem_told i) calls faults) (Err e)) (sym is) (record {
      outside = same at (length bytes) mem.bytes.items;
      written = tt;
      now = λ image left. (image, since_earlier mem.first.items (reverse mem.log.items) (min disk.calls mem.calls) (min calls mem.calls) image since left, same at (length bytes) image);
      time = record { since = λ t image le left. inl left; keeps = λ t image le left. left };
    })
