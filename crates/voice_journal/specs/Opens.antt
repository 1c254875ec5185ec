-- What opening gives.
use Rattle.std.specs.Prelude.{◌≡◌, ℕ, List, ⊤}
use Rattle.voice_outside.specs.Disk.{Told}
use Rattle.disk_areas.specs.Areas.{Journal, JournalReading, journal_in}
use Rattle.voice_journal.specs.Readings.{Reads}
use Rattle.voice_journal.specs.Parsed.{placed}
use Rattle.voice_journal.specs.Stands.{Stands}
use Rattle.voice_journal.specs.declared.errors.OpenError.{OpenError}
use Rattle.voice_journal.specs.declared.errors.OpenError.TheVariants.{BadDisk, DiskFault, NoMemory}
use Rattle.voice_journal.specs.declared.opening.Opened.{Opened}

-- a place of damage is the one that the bytes have
abbrev pub IfBad : List ℕ → OpenError → Type 0
IfBad bytes e = (place : ℕ) → e ≡ BadDisk place → journal_in bytes ≡ JournalReading.Damaged place

-- a place of damage is this one
abbrev pub IsBadAt : ℕ → OpenError → Type 0
IsBadAt place (BadDisk other) = other ≡ place
IsBadAt place DiskFault = ⊤
IsBadAt place NoMemory = ⊤

-- the bytes read so; the payloads are those of the reading, with their places; and the journal stands
pub record IsOpened (bytes : List ℕ) (disk : Told) (opened : Opened) (r : Journal) : Type 0 where
  pub reads : Reads bytes r
  pub payloads : opened.payloads ≡ placed r.start r.records
  pub stands : Stands opened.journal disk r
