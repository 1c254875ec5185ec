-- The laws of this crate, as statements.
--     Opens      an image that reads, and whose changes rebuild b, opens as the state that b gives, filled from it
--     OpensEmpty      a disk that was just formatted opens as the empty state of its shape
--     Damages      damage of the journal's reading, or a payload that is refused, is the definition's damage, at its place
--     RebuildsValid      what a journal's records rebuild keeps what replay keeps
--     RebuildsOnce      they rebuild one thing
--     RebuildsMore      one payload more that spells a legal change
--     RebuildsBase      the base of what is rebuilt, in the other area, rebuilds the same
use Rattle.std.specs.Prelude.{◌≡◌, ℕ, ◌-◌, ◌≤◌, true, List, map, slice_get, Some, is_some}
use Rattle.voice_units.specs.declared.shapes.Shape.{Shape}
use Rattle.voice_model.specs.State.{opened}
use Rattle.voice_model.specs.State as states
use Rattle.voice_model.specs.Spelling.{spelling, change_in}
use Rattle.voice_model.specs.Replay.{Rebuilt, nothing_rebuilt, is_legal, acted, finished, brings, recovered}
use Rattle.voice_model.specs.Image.{Replayed, Reading, replayed, reading, opened_from, recovered_from}
use Rattle.voice_model.specs.Base.{base_of, in_order}
use Rattle.voice_model.specs.Places.{IsPlaced, AllUsed, CanBeSpelled}
use Rattle.voice_model.specs.Valid.{IsState, IsRebuilt}
use Rattle.voice_model.specs.declared.changes.Change.{Change}
use Rattle.disk_areas.specs.Areas.{Record, Journal, JournalReading, journal_in}
use Rattle.voice_journal.specs.Readings.{Reads, with_payload, switched}
use Rattle.voice_journal.specs.Formatted.{IsFormatted}
use Rattle.voice_journal.specs.Parsed.{placed}
use Rattle.recovery.specs.Shown.{plain_sample, numbered}
use Rattle.journal_readings.specs.Readings.{payloads_of, Rebuild}

-- an image that reads, and whose changes rebuild b, opens as the state that b gives, filled from it
pub record Opens : Type 0 where
  pub opened : (image : List ℕ) (r : Journal) (b : Rebuilt) → Reads image r → Rebuild r b → opened_from image ≡ Some (opened (recovered image b) (r.shape.area - 1 - r.gate) r.epoch b.form)
  pub recovers : (image : List ℕ) (r : Journal) (b : Rebuilt) → Reads image r → Rebuild r b → recovered_from image ≡ Some (recovered image b)

-- a disk that was just formatted opens as the empty state of its shape
pub record OpensEmpty : Type 0 where
  pub empty : (shape : Shape) (old image : List ℕ) → IsFormatted shape old image → opened_from image ≡ Some (states.formatted shape)

-- damage of the journal's reading, or a payload that is refused, is the definition's damage, at its place
pub record Damages : Type 0 where
  pub journal_place : (image : List ℕ) (place : ℕ) → journal_in image ≡ JournalReading.Damaged place → reading image ≡ Reading.Bad place
  -- payloads that are replayed under their own numbers rebuild what the records do
  pub numbered_all : (r : Journal) (b : Rebuilt) → replayed (nothing_rebuilt r.shape) (numbered 0 (payloads_of r.records)) ≡ Replayed.All b → Rebuild r b
  -- the one that is refused is damage at its gate's place on the disk
  pub numbered_bad :
      (image : List ℕ) (r : Journal) (k : ℕ) (one : Record) → Reads image r
      → replayed (nothing_rebuilt r.shape) (numbered 0 (payloads_of r.records)) ≡ Replayed.Refused k
      → slice_get (placed r.start r.records) k ≡ Some one → reading image ≡ Reading.Bad one.at

-- what a journal's records rebuild keeps what replay keeps
pub record RebuildsValid : Type 0 where
  pub valid : (r : Journal) (b : Rebuilt) → Rebuild r b → IsRebuilt plain_sample b × IsPlaced b × AllUsed b × (b.shape ≡ r.shape)
  -- to end the list once more frees nothing
  pub finished_again : (r : Journal) (b : Rebuilt) → Rebuild r b → finished b ≡ b
  -- filled from any image
  pub state : (r : Journal) (b : Rebuilt) (image : List ℕ) (left epoch : ℕ) → Rebuild r b → left ≤ r.shape.area - 17 → IsState (opened (recovered image b) left epoch b.form)

-- they rebuild one thing
pub record RebuildsOnce : Type 0 where
  pub once : (r : Journal) (b c : Rebuilt) → Rebuild r b → Rebuild r c → b ≡ c

-- one payload more that spells a legal change
pub record RebuildsMore : Type 0 where
  pub append :
      (r : Journal) (b : Rebuilt) (payload : List ℕ) (c : Change) → Rebuild r b
      → change_in payload ≡ Some c → is_some (brings c) ≡ true → is_legal b c ≡ true → Rebuild (with_payload r payload) (acted b c)

-- The base of what is rebuilt, in the other area, rebuilds the same: `end` is what it reads back as.
pub record RebuildsBase : Type 0 where
  pub switch :
      (r : Journal) (form : ℕ) (b : Rebuilt) → IsRebuilt plain_sample b → IsPlaced b → AllUsed b → CanBeSpelled form b → b.shape ≡ r.shape
      → (end : Rebuilt) × Rebuild (switched r (map spelling (base_of form b))) end × (end.kept ≡ b.kept) × (end.form ≡ form) × (end.places ≡ in_order b.places) × ((image : List ℕ) → recovered image end ≡ recovered image b)
