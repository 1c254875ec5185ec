-- What an image opens as, by what the journal reads of it and what its records rebuild.
use Rattle.std.proofs.Common.{◌≡◌, ℕ, zero, suc, ◌+◌, ◌-◌, ◌≤◌, Bool, true, false, List, [], ◌∷◌, Option, Some, None, refl, sym, ◌∙◌, ap, arith}
use Rattle.std.specs.Prelude.{slice_get}
use Rattle.voice_units.specs.declared.shapes.Shape.{Shape}
use Rattle.voice_model.specs.State.{opened, form_of}
use Rattle.voice_model.specs.State as states
use Rattle.voice_model.specs.Spelling.{change_in}
use Rattle.voice_model.specs.Replay.{Rebuilt, nothing_rebuilt, finished, is_legal, acted, recovered}
use Rattle.voice_model.specs.Image.{Replayed, Reading, replayed, by_change, if_allowed, by_replay, by_journal, reading, opened_from, recovered_from}
use Rattle.voice_model.specs.declared.changes.Change.{Change}
use Rattle.voice_model.proofs.OneReading.{opens_as, recovers_as}
use Rattle.disk_areas.specs.Areas.{Record, Journal, JournalReading, journal_in}
use Rattle.voice_journal.specs.Readings.{Reads, formatted}
use Rattle.voice_journal.specs.Formatted.{IsFormatted}
use Rattle.voice_journal.specs.Parsed.{placed}
use Rattle.recovery.specs.Shown.{numbered}
use Rattle.journal_readings.specs.Readings.{payloads_of, Rebuild}
use Rattle.journal_readings.proofs.Replays.{accepted, accepted_at}

-- ---- an image that reads

reading_as : (image : List ℕ) (r : Journal) → Reads image r → (x : Replayed) → replayed (nothing_rebuilt r.shape) r.records ≡ x → reading image ≡ by_replay r x
reading_as image r reads x e = ap by_journal reads ∙ ap (by_replay r) e

pub opens : (image : List ℕ) (r : Journal) (b : Rebuilt) → Reads image r → Rebuild r b → opened_from image ≡ Some (opened (recovered image b) (r.shape.area - 1 - r.gate) r.epoch b.form)
opens image r b reads e = opens_as image r b (reading_as image r reads (Replayed.All b) e)

pub recovers : (image : List ℕ) (r : Journal) (b : Rebuilt) → Reads image r → Rebuild r b → recovered_from image ≡ Some (recovered image b)
recovers image r b reads e = recovers_as image r b (reading_as image r reads (Replayed.All b) e)

-- no record rebuilds nothing
pub opens_empty : (shape : Shape) (old image : List ℕ) → IsFormatted shape old image → opened_from image ≡ Some (states.formatted shape)
opens_empty shape old image is =
    opens image (formatted shape) (finished (nothing_rebuilt shape)) is.reads refl
    ∙ ap (λ (left : ℕ). Some (opened (recovered image (finished (nothing_rebuilt shape))) left 1 (form_of shape.version))) (left_is shape.area)
  where
    left_is : (area : ℕ) → area - 1 - 16 ≡ area - 17
    left_is area = omega arith

-- ---- an image that is damaged

pub journal_place : (image : List ℕ) (place : ℕ) → journal_in image ≡ JournalReading.Damaged place → reading image ≡ Reading.Bad place
journal_place image place e = ap by_journal e

numbered_end : (r : Rebuilt) (k : ℕ) (records : List Record) (b : Rebuilt) → replayed r (numbered k (payloads_of records)) ≡ Replayed.All b → replayed r records ≡ Replayed.All b
numbered_end r k [] b e = e
numbered_end r k (one ∷ records) b e =
    let next = accepted r k (change_in one.payload) (λ next. replayed next (numbered (k + 1) (payloads_of records))) b e in
    accepted_at r one.at (change_in one.payload) next.change (λ next. replayed next records) next.spelled next.legal
    ∙ numbered_end (acted r next.change) (k + 1) records b next.rest

pub numbered_all : (r : Journal) (b : Rebuilt) → replayed (nothing_rebuilt r.shape) (numbered 0 (payloads_of r.records)) ≡ Replayed.All b → Rebuild r b
numbered_all r b e = numbered_end (nothing_rebuilt r.shape) 0 r.records b e

-- ---- a payload that is refused

refused_same : (m n : ℕ) → Replayed.Refused m ≡ Replayed.Refused n → m ≡ n
refused_same m n e = cc

-- a record is refused under its own number or a later one
refused_later : (r : Rebuilt) (k : ℕ) (payloads : List (List ℕ)) (n : ℕ) → replayed r (numbered k payloads) ≡ Replayed.Refused n → k ≤ n
refused_later r k [] n e = cc
refused_later r k (payload ∷ payloads) n e = by_bytes (change_in payload) (λ next. refused_later next (k + 1) payloads n) e
  where
    by_test : (b : Bool) (x : Replayed) → (x ≡ Replayed.Refused n → k + 1 ≤ n) → if_allowed b k x ≡ Replayed.Refused n → k ≤ n
    by_test true x step h = let low = step h in omega (arith, low)
    by_test false x step h = let same = refused_same k n h in omega (arith, same)

    by_bytes : (o : Option Change) → ((next : Rebuilt) → replayed next (numbered (k + 1) payloads) ≡ Replayed.Refused n → k + 1 ≤ n) → by_change r k o (λ next. replayed next (numbered (k + 1) payloads)) ≡ Replayed.Refused n → k ≤ n
    by_bytes None step h = let same = refused_same k n h in omega (arith, same)
    by_bytes (Some c) step h = by_test (is_legal r c) (replayed (acted r c) (numbered (k + 1) payloads)) (step (acted r c)) h

-- what refused a record under one number refuses it under another, or a later one does
by_number :
    (P : Replayed → Type 0) (r : Rebuilt) (k at n : ℕ) (o : Option Change) (f g : Rebuilt → Replayed)
    → (n ≡ k → P (Replayed.Refused at)) → ((x : Rebuilt) → f x ≡ Replayed.Refused n → P (g x)) → by_change r k o f ≡ Replayed.Refused n → P (by_change r at o g)
by_number P r k at n None f g here later e = here (sym (refused_same k n e))
by_number P r k at n (Some c) f g here later e = by_test (is_legal r c) e
  where
    by_test : (b : Bool) → if_allowed b k (f (acted r c)) ≡ Replayed.Refused n → P (if_allowed b at (g (acted r c)))
    by_test true h = later (acted r c) h
    by_test false h = here (sym (refused_same k n h))

one_same : (x : Record) (y : Record) → Some x ≡ Some y → x ≡ y
one_same x y e = cc

refused_at :
    (j : Journal) (r : Rebuilt) (k i n : ℕ) (records : List Record) (one : Record) → n ≡ k + i
    → replayed r (numbered k (payloads_of records)) ≡ Replayed.Refused n → slice_get (placed j.start records) i ≡ Some one → by_replay j (replayed r records) ≡ Reading.Bad one.at
refused_at j r k i n [] one is e at = cc
refused_at j r k zero n (first ∷ records) one is e at =
    by_number (λ x. by_replay j x ≡ Reading.Bad one.at) r k first.at n (change_in first.payload) (λ next. replayed next (numbered (k + 1) (payloads_of records))) (λ next. replayed next records)
    (λ same. ap (λ (x : Record). Reading.Bad x.at) (one_same _ one at))
    (λ x h. let late = refused_later x (k + 1) (payloads_of records) n h in absurd (omega (arith, is, late))) e
refused_at j r k (suc i) n (first ∷ records) one is e at =
    by_number (λ x. by_replay j x ≡ Reading.Bad one.at) r k first.at n (change_in first.payload) (λ next. replayed next (numbered (k + 1) (payloads_of records))) (λ next. replayed next records)
    (λ same. absurd (omega (arith, is, same)))
    (λ x h. refused_at j x (k + 1) i n records one (omega (arith, is)) h at) e

pub numbered_bad :
    (image : List ℕ) (r : Journal) (k : ℕ) (one : Record) → Reads image r
    → replayed (nothing_rebuilt r.shape) (numbered 0 (payloads_of r.records)) ≡ Replayed.Refused k
    → slice_get (placed r.start r.records) k ≡ Some one → reading image ≡ Reading.Bad one.at
numbered_bad image r k one reads e at =
    reading_as image r reads (replayed (nothing_rebuilt r.shape) r.records) refl
    ∙ refused_at r (nothing_rebuilt r.shape) 0 k k r.records one (omega arith) e at
