-- What was read of a disk is the state as which the disk opens.
use Rattle.std.proofs.Common.{◌≡◌, ℕ, zero, suc, ◌+◌, ◌-◌, Bool, true, false, List, [], ◌∷◌, Option, Some, None, refl, sym, ◌∙◌, ap, subst, arith}
use Rattle.std.specs.Prelude.{slice_get}
use Rattle.voice_units.specs.declared.shapes.Shape.{Shape}
use Rattle.voice_outside.specs.Disk.{Told}
use Rattle.disk_areas.specs.Areas as journal
use Rattle.voice_journal.specs.Parsed.{placed}
use Rattle.voice_journal.specs.Opens.{IsOpened}
use Rattle.voice_journal.specs.declared.opening.Opened.{Opened}
use Rattle.voice_model.specs.State.{opened}
use Rattle.voice_model.specs.Spelling.{change_in}
use Rattle.voice_model.specs.Replay.{Rebuilt, nothing_rebuilt, is_legal, acted, recovered}
use Rattle.voice_model.specs.Image.{Replayed, Reading, replayed, by_change, if_allowed, reading, opened_from}
use Rattle.voice_model.specs.declared.changes.Change.{Change}
use Rattle.recovery.specs.Shown.{numbered}
use Rattle.recovery.specs.Replayed.{bytes_of, records_of}
use Rattle.journal_readings.specs.Readings.{payloads_of, Rebuild}
use Rattle.journal_readings.proofs.Openings.{opens, numbered_all, numbered_bad}
use Rattle.journal_readings.proofs.Replays.{valid}

-- ---- payloads that were read

placed_payloads : (start : ℕ) (rs : List journal.Record) → payloads_of (placed start rs) ≡ payloads_of rs
placed_payloads start [] = refl
placed_payloads start (r ∷ rs) = ap (λ (l : List (List ℕ)). r.payload ∷ l) (placed_payloads start rs)

-- the payloads of the records are those that were read
payloads_read : (start : ℕ) (ps rs : List journal.Record) → ps ≡ placed start rs → payloads_of rs ≡ bytes_of ps
payloads_read start ps rs e = sym (placed_payloads start rs) ∙ sym (ap (λ (l : List journal.Record). payloads_of l) e)

-- what they rebuild is what the records rebuild
read_rebuilds : (bytes : List ℕ) (disk : Told) (opening : Opened) (r : journal.Journal) → IsOpened bytes disk opening r → opening.journal.shape ≡ opening.shape
    → (x : Replayed) → replayed (nothing_rebuilt opening.shape) (records_of opening.payloads) ≡ x → replayed (nothing_rebuilt r.shape) (numbered 0 (payloads_of r.records)) ≡ x
read_rebuilds bytes disk opening r is same x e =
    ap (λ (l : List (List ℕ)). replayed (nothing_rebuilt r.shape) (numbered 0 l)) (payloads_read r.start opening.payloads r.records is.payloads)
    ∙ ap (λ (shape : Shape). replayed (nothing_rebuilt shape) (records_of opening.payloads)) (sym is.stands.at.shape_is ∙ same) ∙ e

-- ---- the payload that is refused

refused_same : (m n : ℕ) → Replayed.Refused m ≡ Replayed.Refused n → m ≡ n
refused_same m n e = cc

-- among payloads that are numbered from k on, one has number n
record IsThere (ps : List journal.Record) (k n : ℕ) : Type 0 where
  index : ℕ
  one : journal.Record
  number : n ≡ k + index
  at : slice_get ps index ≡ Some one

refused_from : (r : Rebuilt) (k : ℕ) (ps : List journal.Record) (n : ℕ) → replayed r (numbered k (bytes_of ps)) ≡ Replayed.Refused n → IsThere ps k n
refused_from r k [] n e = cc
refused_from r k (p ∷ ps) n e = by_bytes (change_in p.payload) (λ next h. refused_from next (k + 1) ps n h) e
  where
    here : n ≡ k → IsThere (p ∷ ps) k n
    here same = record { index = 0; one = p; number = omega (arith, same); at = refl }

    later : IsThere ps (k + 1) n → IsThere (p ∷ ps) k n
    later there = let number = there.number in record { index = suc there.index; one = there.one; number = omega (arith, number); at = there.at }

    by_test : (b : Bool) (x : Replayed) → (x ≡ Replayed.Refused n → IsThere ps (k + 1) n) → if_allowed b k x ≡ Replayed.Refused n → IsThere (p ∷ ps) k n
    by_test true x step h = later (step h)
    by_test false x step h = here (sym (refused_same k n h))

    by_bytes : (o : Option Change) → ((next : Rebuilt) → replayed next (numbered (k + 1) (bytes_of ps)) ≡ Replayed.Refused n → IsThere ps (k + 1) n)
        → by_change r k o (λ next. replayed next (numbered (k + 1) (bytes_of ps))) ≡ Replayed.Refused n → IsThere (p ∷ ps) k n
    by_bytes None step h = here (sym (refused_same k n h))
    by_bytes (Some c) step h = by_test (is_legal r c) (replayed (acted r c) (numbered (k + 1) (bytes_of ps))) (step (acted r c)) h

-- it is damage at its gate's place
pub refused_place : (bytes : List ℕ) (disk : Told) (opening : Opened) (r : journal.Journal) → IsOpened bytes disk opening r → opening.journal.shape ≡ opening.shape
    → (k place : ℕ) → replayed (nothing_rebuilt opening.shape) (records_of opening.payloads) ≡ Replayed.Refused k
    → ((one : journal.Record) → slice_get opening.payloads k ≡ Some one → place ≡ one.at) → reading bytes ≡ Reading.Bad place
refused_place bytes disk opening r is same k place refused at =
    let ps = opening.payloads in
    let there = refused_from (nothing_rebuilt opening.shape) 0 ps k refused in
    let number = there.number in
    let index : there.index ≡ k = omega (arith, number) in
    let here : slice_get ps k ≡ Some there.one = subst (λ (i : ℕ). slice_get ps i ≡ Some there.one) index there.at in
    let found : slice_get (placed r.start r.records) k ≡ Some there.one =
    ap (λ (l : List journal.Record). slice_get l k) (sym is.payloads) ∙ here in
    numbered_bad bytes r k there.one is.reads (read_rebuilds bytes disk opening r is same (Replayed.Refused k) refused) found
    ∙ ap (λ (n : ℕ). Reading.Bad n) (sym (at there.one here))

-- ---- what was rebuilt

-- payloads as a journal's records
abbrev as_journal : Shape → List journal.Record → journal.Journal
as_journal shape ps = record { shape = shape; start = 0; epoch = 0; records = ps; gate = 0 }

-- it has the journal's shape
pub shape_rebuilt : (shape : Shape) (ps : List journal.Record) (b : Rebuilt) → replayed (nothing_rebuilt shape) (records_of ps) ≡ Replayed.All b → b.shape ≡ shape
shape_rebuilt shape ps b e =
    let rebuilds : Rebuild (as_journal shape ps) b = numbered_all (as_journal shape ps) b e in
    (valid (as_journal shape ps) b rebuilds).3

-- the disk's bytes open as it, filled from them
pub opens_so : (bytes : List ℕ) (disk : Told) (opening : Opened) (r : journal.Journal) (b : Rebuilt) → IsOpened bytes disk opening r → opening.journal.shape ≡ opening.shape
    → replayed (nothing_rebuilt opening.shape) (records_of opening.payloads) ≡ Replayed.All b
    → (left epoch : ℕ) → left ≡ opening.journal.shape.area - 1 - opening.journal.seat.gate → epoch ≡ opening.journal.seat.epoch
    → opened_from bytes ≡ Some (opened (recovered bytes b) left epoch b.form)
opens_so bytes disk opening r b is same rebuilds left epoch left_is epoch_is =
    let at = is.stands.at in
    let area = ap (λ (shape : Shape). shape.area) at.shape_is in
    let gate = at.gate in
    let rest : r.shape.area - 1 - r.gate ≡ left = omega (arith, left_is, area, gate) in
    opens bytes r b is.reads (numbered_all r b (read_rebuilds bytes disk opening r is same (Replayed.All b) rebuilds))
    ∙ ap (λ (n : ℕ). Some (opened (recovered bytes b) n r.epoch b.form)) rest
    ∙ ap (λ (n : ℕ). Some (opened (recovered bytes b) left n b.form)) (sym (epoch_is ∙ at.epoch))
