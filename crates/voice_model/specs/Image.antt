-- What an image of a disk means.
--     reading image      what `journal_in` reads of it, and what the records rebuild; or the place of the damage
--     recovered_from image, opened_from image      the durable part;  the state of a server that opens it
use Rattle.std.specs.Prelude.{ℕ, ◌+◌, ◌-◌, ◌*◌, Bool, true, false, List, [], ◌∷◌, ◌++◌, length, replicate, Option, Some, None}
use Rattle.voice_units.specs.declared.shapes.Shape.{Shape}
use Rattle.disk_areas.specs.Numbers.{number_bytes}
use Rattle.disk_areas.specs.Areas.{Record, Journal, JournalReading, journal_in, superblock}
use Rattle.voice_model.specs.Samples.{Tagged}
use Rattle.voice_model.specs.State.{State, Durable, opened}
use Rattle.voice_model.specs.Spelling.{spelling, change_in}
use Rattle.voice_model.specs.Replay.{Rebuilt, nothing_rebuilt, is_legal, acted, finished, recovered}
use Rattle.voice_model.specs.declared.changes.Change.{Change}

-- ---- what its records rebuild

-- what records rebuild, or the gate of the first one that is no change or is not legal
pub data Replayed : Type 0 where
  All : Rebuilt → Replayed
  Refused : ℕ → Replayed

abbrev pub if_allowed : Bool → ℕ → Replayed → Replayed
if_allowed true at later = later
if_allowed false at later = Replayed.Refused at

abbrev pub by_change : Rebuilt → ℕ → Option Change → (Rebuilt → Replayed) → Replayed
by_change r at None later = Replayed.Refused at
by_change r at (Some c) later = if_allowed (is_legal r c) at (later (acted r c))

abbrev pub replayed : Rebuilt → List Record → Replayed
replayed r [] = Replayed.All (finished r)
replayed r (one ∷ rest) = by_change r one.at (change_in one.payload) (λ next. replayed next rest)

pub data Reading : Type 0 where
  Reads : Journal → Rebuilt → Reading
  Bad : ℕ → Reading

abbrev pub by_replay : Journal → Replayed → Reading
by_replay journal (Replayed.All r) = Reading.Reads journal r
by_replay journal (Replayed.Refused at) = Reading.Bad (journal.start + at)

abbrev pub by_journal : JournalReading → Reading
by_journal (JournalReading.Damaged place) = Reading.Bad place
by_journal (JournalReading.Stands journal) = by_replay journal (replayed (nothing_rebuilt journal.shape) journal.records)

abbrev pub reading : List ℕ → Reading
reading image = by_journal (journal_in image)

-- ---- the state of an image

abbrev pub recovered_by : List ℕ → Reading → Option (Durable Tagged)
recovered_by image (Reading.Reads journal r) = Some (recovered image r)
recovered_by image (Reading.Bad place) = None

abbrev pub recovered_from : List ℕ → Option (Durable Tagged)
recovered_from image = recovered_by image (reading image)

abbrev pub opened_by : List ℕ → Reading → Option State
opened_by image (Reading.Reads journal r) = Some (opened (recovered image r) (journal.shape.area - 1 - journal.gate) journal.epoch r.form)
opened_by image (Reading.Bad place) = None

abbrev pub opened_from : List ℕ → Option State
opened_from image = opened_by image (reading image)

-- ---- the image of a disk that was just formatted

-- a change with its gate and its length
abbrev pub framed : Change → List ℕ
framed c = 1 ∷ number_bytes 4 (length (spelling c)) ++ spelling c

abbrev pub blank : Shape → List ℕ
blank shape = superblock shape ++ (1 ∷ replicate 7 0) ++ number_bytes 8 1 ++ replicate (2 * shape.area + shape.block * shape.blocks - 16) 0
