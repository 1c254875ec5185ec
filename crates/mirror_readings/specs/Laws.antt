-- The laws of this crate, as statements.
--     numbered_payload n payload      a payload behind its number
--     MirrorOpens      an image of version 2 that reads, and whose numbered changes rebuild b and end at n, reads as a mirror with both
--     MirrorOpensEmpty      a disk that was just formatted in version 2 is an empty mirror at position 0
--     MirrorDamages      damage of the journal's reading, version 1, or a payload that is refused, is the definition's damage, at its place
--     MirrorRebuildsValid      what numbered records rebuild keeps what replay keeps, and what the position is at most
--     MirrorRebuildsOnce      they rebuild one thing and one position
--     MirrorRebuildsMore      one payload more, with the next number and a legal change
--     MirrorRebuildsBase      the base of what is rebuilt, in the other area and with the position as its number, rebuilds the same
use Rattle.std.specs.Prelude.{◌≡◌, ℕ, ◌+◌, ◌-◌, ◌^◌, ◌≤◌, ◌<◌, true, false, List, ◌++◌, map, length, slice_get, Some, is_some}
use Rattle.voice_units.specs.declared.shapes.Shape.{Shape}
use Rattle.voice_model.specs.State.{opened}
use Rattle.voice_model.specs.State as states
use Rattle.voice_model.specs.Spelling.{spelling, change_in}
use Rattle.voice_model.specs.Replay.{Rebuilt, nothing_rebuilt, is_legal, acted, finished, brings, recovered}
use Rattle.voice_model.specs.Base.{base_of, in_order}
use Rattle.voice_model.specs.Places.{IsPlaced, AllUsed, CanBeSpelled}
use Rattle.voice_model.specs.Valid.{IsState, IsRebuilt}
use Rattle.voice_model.specs.declared.changes.Change.{Change}
use Rattle.disk_areas.specs.Numbers.{number_bytes}
use Rattle.disk_areas.specs.Areas.{Record, Journal, JournalReading, journal_in}
use Rattle.voice_journal.specs.Readings.{Reads, with_payload, switched}
use Rattle.voice_journal.specs.Formatted.{IsFormatted}
use Rattle.voice_journal.specs.Parsed.{placed}
use Rattle.recovery.specs.Shown.{plain_sample}
use Rattle.recovery.specs.Replayed.{records_of}
use Rattle.mirror_replay.specs.Numbered.{Numbered, numbered_replayed}
use Rattle.mirror_readings.specs.Readings.{NumberedRebuild, MirrorReading, mirror_reading, is_first_version, mirrored_from}

-- a payload behind its number
abbrev pub numbered_payload : ℕ → List ℕ → List ℕ
numbered_payload n payload = number_bytes 8 n ++ payload

-- an image of version 2 that reads, and whose numbered changes rebuild b and end at n, reads as a mirror with both
pub record MirrorOpens : Type 0 where
  pub reads : (image : List ℕ) (r : Journal) (b : Rebuilt) (n : ℕ) → Reads image r → r.shape.version ≡ 2 → NumberedRebuild r b n → mirror_reading image ≡ MirrorReading.Reads r b n
  pub opened : (image : List ℕ) (r : Journal) (b : Rebuilt) (n : ℕ) → Reads image r → r.shape.version ≡ 2 → NumberedRebuild r b n → mirrored_from image ≡ Some (record { kept = recovered image b; position = n })
  -- a disk of version 2 is no manager's of version 1
  pub second : (image : List ℕ) (r : Journal) → Reads image r → r.shape.version ≡ 2 → is_first_version image ≡ false
  -- and one that reads and is none of version 1 is of version 2
  pub newest : (image : List ℕ) (r : Journal) → Reads image r → is_first_version image ≡ false → r.shape.version ≡ 2

-- a disk that was just formatted in version 2 is an empty mirror at position 0
pub record MirrorOpensEmpty : Type 0 where
  pub empty : (shape : Shape) (old image : List ℕ) → IsFormatted shape old image → shape.version ≡ 2 → mirrored_from image ≡ Some (record { kept = (states.formatted shape).kept; position = 0 })

-- damage of the journal's reading, version 1, or a payload that is refused, is the definition's damage, at its place
pub record MirrorDamages : Type 0 where
  pub journal_place : (image : List ℕ) (place : ℕ) → is_first_version image ≡ false → journal_in image ≡ JournalReading.Damaged place → mirror_reading image ≡ MirrorReading.Bad place
  pub first_version : (image : List ℕ) → is_first_version image ≡ true → mirror_reading image ≡ MirrorReading.Bad 8
  -- payloads that are replayed under their own numbers rebuild what the records do
  pub numbered_all : (r : Journal) (b : Rebuilt) (n : ℕ) → numbered_replayed (nothing_rebuilt r.shape) (records_of r.records) ≡ Numbered.All b n → NumberedRebuild r b n
  -- the one that is refused is damage at its gate's place on the disk
  pub numbered_bad :
      (image : List ℕ) (r : Journal) (k : ℕ) (one : Record) → is_first_version image ≡ false → Reads image r
      → numbered_replayed (nothing_rebuilt r.shape) (records_of r.records) ≡ Numbered.Refused k
      → slice_get (placed r.start r.records) k ≡ Some one → mirror_reading image ≡ MirrorReading.Bad one.at

-- what numbered records rebuild keeps what replay keeps
pub record MirrorRebuildsValid : Type 0 where
  pub valid : (r : Journal) (b : Rebuilt) (n : ℕ) → NumberedRebuild r b n → IsRebuilt plain_sample b × IsPlaced b × AllUsed b × (b.shape ≡ r.shape)
  -- to end the list once more frees nothing
  pub finished_again : (r : Journal) (b : Rebuilt) (n : ℕ) → NumberedRebuild r b n → finished b ≡ b
  -- filled from any image
  pub state : (r : Journal) (b : Rebuilt) (n : ℕ) (image : List ℕ) (left epoch : ℕ) → NumberedRebuild r b n → left ≤ r.shape.area - 17 → IsState (opened (recovered image b) left epoch b.form)
  -- the first number is at most 2^48, and each later one at most 1 more
  pub position : (r : Journal) (b : Rebuilt) (n : ℕ) → NumberedRebuild r b n → n ≤ 2 ^ 48 + length r.records

-- they rebuild one thing and one position
pub record MirrorRebuildsOnce : Type 0 where
  pub once : (r : Journal) (b c : Rebuilt) (m n : ℕ) → NumberedRebuild r b m → NumberedRebuild r c n → (b ≡ c) × (m ≡ n)

-- one payload more, with the next number and a legal change
pub record MirrorRebuildsMore : Type 0 where
  pub append :
      (r : Journal) (b : Rebuilt) (n : ℕ) (payload : List ℕ) (c : Change) → NumberedRebuild r b n
      → change_in payload ≡ Some c → is_some (brings c) ≡ true → is_legal b c ≡ true → n + 1 < 2 ^ 64 → NumberedRebuild (with_payload r (numbered_payload (n + 1) payload)) (acted b c) (n + 1)

-- The base of what is rebuilt, in the other area and with the position as its number, rebuilds the same: `end` is what it reads back as.
pub record MirrorRebuildsBase : Type 0 where
  pub switch :
      (r : Journal) (b : Rebuilt) (n : ℕ) → IsRebuilt plain_sample b → IsPlaced b → AllUsed b → CanBeSpelled 2 b → b.shape ≡ r.shape → n ≤ 2 ^ 48
      → (end : Rebuilt) × NumberedRebuild (switched r (map (numbered_payload n) (map spelling (base_of 2 b)))) end n × (end.kept ≡ b.kept) × (end.form ≡ 2) × (end.places ≡ in_order b.places) × ((image : List ℕ) → recovered image end ≡ recovered image b)
