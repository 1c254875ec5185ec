-- What an image of a mirror's disk means.
--     NumberedRebuild r b n      the numbered changes of a journal's records rebuild b, and the last one has the number n
--     mirror_reading image      what `journal_in` reads of it, what the numbered records rebuild, and the last number; or the place of the damage
--     Mirrored, mirrored_from image      the durable part, and the position
use Rattle.std.specs.Prelude.{◌≡◌, ℕ, ◌+◌, Bool, true, false, ◌&&◌, ◌==◌, nat_le, List, take, length, bytes_eq, Option, Some, None}
use Rattle.disk_areas.specs.Numbers.{number_at}
use Rattle.disk_areas.specs.Areas.{Journal, JournalReading, journal_in, magic}
use Rattle.voice_model.specs.Samples.{Tagged}
use Rattle.voice_model.specs.State.{Durable}
use Rattle.voice_model.specs.Replay.{Rebuilt, nothing_rebuilt, recovered}
use Rattle.mirror_replay.specs.Numbered.{Numbered, numbered_replayed}

-- the numbered changes of a journal's records rebuild b, and n is the last number
abbrev pub NumberedRebuild : Journal → Rebuilt → ℕ → Type 0
NumberedRebuild r b n = numbered_replayed (nothing_rebuilt r.shape) r.records ≡ Numbered.All b n

-- a journal, what its numbered records rebuild, and the last number; or the place of the damage
pub data MirrorReading : Type 0 where
  Reads : Journal → Rebuilt → ℕ → MirrorReading
  Bad : ℕ → MirrorReading

abbrev pub by_numbers : Journal → Numbered → MirrorReading
by_numbers journal (Numbered.All b n) = MirrorReading.Reads journal b n
by_numbers journal (Numbered.Refused at) = MirrorReading.Bad (journal.start + at)

abbrev pub by_journal : JournalReading → MirrorReading
by_journal (JournalReading.Damaged place) = MirrorReading.Bad place
by_journal (JournalReading.Stands journal) = by_numbers journal (numbered_replayed (nothing_rebuilt journal.shape) journal.records)

-- a disk of version 1, which is a manager's and no mirror's, whatever stands behind the version
unfoldable pub is_first_version : List ℕ → Bool
is_first_version image = nat_le 64 (length image) && bytes_eq (take 8 image) magic && (number_at 4 8 image == 1)

abbrev pub unless_first : Bool → MirrorReading → MirrorReading
unless_first true later = MirrorReading.Bad 8
unless_first false later = later

abbrev pub mirror_reading : List ℕ → MirrorReading
mirror_reading image = unless_first (is_first_version image) (by_journal (journal_in image))

-- ---- the state of an image

-- the durable part of a mirror, and the number of the last change that it has
pub record Mirrored : Type 0 where
  pub kept : Durable Tagged
  pub position : ℕ

abbrev pub mirrored_by : List ℕ → MirrorReading → Option Mirrored
mirrored_by image (MirrorReading.Reads journal b n) = Some (record { kept = recovered image b; position = n })
mirrored_by image (MirrorReading.Bad place) = None

abbrev pub mirrored_from : List ℕ → Option Mirrored
mirrored_from image = mirrored_by image (mirror_reading image)
