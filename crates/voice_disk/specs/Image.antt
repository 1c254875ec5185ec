-- The image of a moment that a choice picks.
--     is_begun moment call      whether a call was made by a moment, or is the write that comes next
--     begun_by moment calls      the calls, the newest first, that a crash at a moment may have met: it may come within the next write
--     image_after choice first calls      what a crash after these calls leaves where each byte that isn't settled gets its last synced value (choice 0), its written value (1), or the choice mod 256 (2 and more)
--     image_at disk moment choice      the same of a disk at one of its moments
use Rattle.std.specs.Prelude.{ℕ, zero, suc, ◌+◌, ◌-◌, ◌%◌, Bool, ◌&&◌, ◌||◌, ◌==◌, List, [], ◌∷◌, length, replicate, reverse, nat_le, cond, true, false}
use Rattle.voice_disk.specs.Bytes.{over}
use Rattle.voice_disk.specs.Replay.{bytes_after}
use Rattle.voice_disk.specs.declared.record.Made.{Made}
use Rattle.voice_disk.specs.declared.record.Made.TheVariants.{Read, Write, Sync}
use Rattle.voice_disk.specs.declared.record.Entry.{Entry}
use Rattle.voice_disk.specs.declared.memory.MemDisk.{MemDisk}

abbrev pub is_write : Made → Bool
is_write (Write at new done) = true
is_write (Read done) = false
is_write (Sync done) = false

-- whether a call was made by a moment, or is the write that comes next and may have begun
abbrev pub is_begun : ℕ → Entry → Bool
is_begun moment e = nat_le e.number moment || ((e.number - moment == 1) && is_write e.made)

-- the calls, the newest first, that a crash at a moment may have met
abbrev pub begun_by : ℕ → List Entry → List Entry
begun_by moment [] = []
begun_by moment (e ∷ calls) = cond (is_begun moment e) (e ∷ calls) (begun_by moment calls)

-- what a write that isn't settled leaves
abbrev pub write_chosen : ℕ → List ℕ → Made → List ℕ
write_chosen zero old made = old
write_chosen (suc zero) old (Write at new true) = over old at new.items
write_chosen (suc (suc c)) old (Write at new done) = over old at (replicate (length new.items) ((2 + c) % 256))
write_chosen (suc c) old made = old

abbrev pub image_made : ℕ → List ℕ → List ℕ → Made → List ℕ
image_made choice bytes old (Read done) = old
image_made choice bytes old (Write at new done) = write_chosen choice old (Write at new done)
image_made choice bytes old (Sync true) = bytes
image_made choice bytes old (Sync false) = old

abbrev pub image_after : ℕ → List ℕ → List Entry → List ℕ
image_after choice first [] = first
image_after choice first (e ∷ calls) = image_made choice (bytes_after first calls) (image_after choice first calls) e.made

abbrev pub image_at : MemDisk → ℕ → ℕ → List ℕ
image_at disk moment choice = image_after choice disk.first.items (begun_by moment (reverse disk.log.items))
