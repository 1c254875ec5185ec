-- What an image of a mirror's disk reads as, by what the journal reads of it and what its numbered records rebuild.
use Rattle.std.proofs.Common.{◌≡◌, ℕ, zero, suc, ◌+◌, ◌≤◌, Bool, true, false, ◌&&◌, ◌||◌, ◌==◌, List, [], ◌∷◌, length, take, Option, Some, None, refl, sym, ◌∙◌, ap, arith, cond, eqb-true}
use Rattle.std.specs.Prelude.{slice_get, nat_le, bytes_eq}
use Rattle.voice_units.specs.declared.shapes.Graces.{Graces}
use Rattle.voice_units.specs.declared.shapes.Shape.{Shape}
use Rattle.voice_units.specs.Layout.{IsShape, is_shape, bytes_needed}
use Rattle.voice_units.specs.Tested.{shape_if, shape_of, shape_tested}
use Rattle.voice_model.specs.State as states
use Rattle.voice_model.specs.Spelling.{change_in}
use Rattle.voice_model.specs.Replay.{Rebuilt, nothing_rebuilt, finished, is_legal, acted, recovered}
use Rattle.voice_model.specs.declared.changes.Change.{Change}
use Rattle.disk_areas.specs.Numbers.{number_at}
use Rattle.disk_areas.specs.Areas.{Record, Records, Journal, JournalReading, Head, journal_in, by_head, by_records, current_head, shape_in, graces_in, if_fits, magic}
use Rattle.voice_journal.specs.Readings.{Reads, formatted}
use Rattle.voice_journal.specs.Formatted.{IsFormatted}
use Rattle.voice_journal.specs.Parsed.{placed}
use Rattle.voice_journal.proofs.Fronts.{front_of}
use Rattle.recovery.specs.Shown.{numbered}
use Rattle.recovery.specs.Replayed.{bytes_of, records_of}
use Rattle.mirror_replay.specs.declared.courses.Course.{Course}
use Rattle.mirror_replay.specs.declared.courses.Course.TheVariants.{Begun}
use Rattle.mirror_replay.specs.Numbered.{Numbered, number_in, without_number, with_number, begins_base, continues_base, if_allowed, or_refused, numbered_from, numbered_replayed}
use Rattle.mirror_readings.specs.Readings.{NumberedRebuild, MirrorReading, by_numbers, by_journal, unless_first, is_first_version, mirror_reading, mirrored_by, mirrored_from}
use Rattle.mirror_readings.proofs.Apart.{one_by, taken, taken_at}

-- ---- the version of an image that reads

shape_of_head : (shape : Shape) (image : List ℕ) (o : Option Head) (r : Journal) → by_head shape image o ≡ JournalReading.Stands r → shape ≡ r.shape
shape_of_head shape image None r e = cc
shape_of_head shape image (Some head) r e = of_records _ e
  where
    stands_same : (a b : Journal) → JournalReading.Stands a ≡ JournalReading.Stands b → a.shape ≡ b.shape
    stands_same a b h = cc

    of_records : (records : Records) → by_records shape head records ≡ JournalReading.Stands r → shape ≡ r.shape
    of_records (Records.Sound rs gate) h = stands_same _ r h
    of_records (Records.Broken at) h = cc

fitting : (size : ℕ) (o : Option Shape) (shape : Shape) → if_fits size o ≡ Some shape → o ≡ Some shape
fitting size None shape h = cc
fitting size (Some s) shape h = by (nat_le (bytes_needed s.block s.blocks s.area) size) h
  where
    by : (b : Bool) → cond b (Some s) None ≡ Some shape → Some s ≡ Some shape
    by true k = k
    by false k = cc

version_of : (version block blocks area : ℕ) (graces : Graces) (lanes : ℕ) (shape : Shape) → shape_of version block blocks area graces lanes ≡ Some shape → shape.version ≡ version
version_of version block blocks area graces lanes shape h = by (is_shape version block blocks area graces lanes) (shape_tested version block blocks area graces lanes) h
  where
    same : (a b : Shape) → Some a ≡ Some b → b.version ≡ a.version
    same a b k = cc

    by : (b : Bool) (t : b ≡ true → IsShape version block blocks area graces lanes) → shape_if version block blocks area graces lanes b t ≡ Some shape → shape.version ≡ version
    by true t k = same _ shape k
    by false t k = cc

version_in : (image : List ℕ) (shape : Shape) (version : ℕ) → shape_in version image ≡ Some shape → shape.version ≡ version
unfolding shape_in
version_in image shape version h = version_of version _ _ _ (graces_in version image) _ shape (fitting (length image) _ shape h)

-- an image that reads has the version of its shape
version_is : (image : List ℕ) (r : Journal) → Reads image r → r.shape.version ≡ number_at 4 8 image
version_is image r reads =
    let front = front_of image r reads in
    ap (λ (s : Shape). s.version) (sym (shape_of_head front.0 image (current_head front.0 image) r front.2)) ∙ version_in image front.0 (number_at 4 8 image) front.1.shape_is

and_false : (a b : Bool) → b ≡ false → (a && b) ≡ false
and_false true b h = h
and_false false b h = refl

pub second : (image : List ℕ) (r : Journal) → Reads image r → r.shape.version ≡ 2 → is_first_version image ≡ false
unfolding is_first_version
second image r reads two =
    let version : number_at 4 8 image ≡ 2 = sym (version_is image r reads) ∙ two in
    and_false (nat_le 64 (length image) && bytes_eq (take 8 image) magic) (number_at 4 8 image == 1) (ap (λ v. v == 1) version)

pub newest : (image : List ℕ) (r : Journal) → Reads image r → is_first_version image ≡ false → r.shape.version ≡ 2
unfolding is_first_version
newest image r reads not_first =
    let front = (front_of image r reads).1 in
    version_is image r reads ∙ by _ (number_at 4 8 image == 1) (number_at 4 8 image == 2) refl front.magic_is front.version_is not_first
  where
    by : (m a b : Bool) → (number_at 4 8 image == 2) ≡ b → m ≡ true → (a || b) ≡ true → (m && a) ≡ false → number_at 4 8 image ≡ 2
    by m a true two magic_is either not_first = eqb-true (number_at 4 8 image) 2 two
    by true true false two magic_is either not_first = cc
    by true false false two magic_is either not_first = cc
    by false a false two magic_is either not_first = cc

-- ---- an image that reads

reading_as : (image : List ℕ) (r : Journal) → is_first_version image ≡ false → Reads image r → (x : Numbered) → numbered_replayed (nothing_rebuilt r.shape) r.records ≡ x → mirror_reading image ≡ by_numbers r x
reading_as image r not_first reads x e = ap (λ t. unless_first t (by_journal (journal_in image))) not_first ∙ ap by_journal reads ∙ ap (by_numbers r) e

pub opens : (image : List ℕ) (r : Journal) (b : Rebuilt) (n : ℕ) → Reads image r → r.shape.version ≡ 2 → NumberedRebuild r b n → mirror_reading image ≡ MirrorReading.Reads r b n
opens image r b n reads two e = reading_as image r (second image r reads two) reads (Numbered.All b n) e

pub opened : (image : List ℕ) (r : Journal) (b : Rebuilt) (n : ℕ) → Reads image r → r.shape.version ≡ 2 → NumberedRebuild r b n → mirrored_from image ≡ Some (record { kept = recovered image b; position = n })
opened image r b n reads two e = ap (mirrored_by image) (opens image r b n reads two e)

-- no record rebuilds nothing
pub opens_empty : (shape : Shape) (old image : List ℕ) → IsFormatted shape old image → shape.version ≡ 2 → mirrored_from image ≡ Some (record { kept = (states.formatted shape).kept; position = 0 })
opens_empty shape old image is two = opened image (formatted shape) (finished (nothing_rebuilt shape)) 0 is.reads two refl

-- ---- an image that is damaged

pub journal_place : (image : List ℕ) (place : ℕ) → is_first_version image ≡ false → journal_in image ≡ JournalReading.Damaged place → mirror_reading image ≡ MirrorReading.Bad place
journal_place image place not_first e = ap (λ t. unless_first t (by_journal (journal_in image))) not_first ∙ ap by_journal e

pub first_version : (image : List ℕ) → is_first_version image ≡ true → mirror_reading image ≡ MirrorReading.Bad 8
first_version image first = ap (λ t. unless_first t (by_journal (journal_in image))) first

numbered_end : (course : Course) (r : Rebuilt) (k : ℕ) (records : List Record) (b : Rebuilt) (n : ℕ) → numbered_from course r (numbered k (bytes_of records)) ≡ Numbered.All b n → numbered_from course r records ≡ Numbered.All b n
numbered_end course r k [] b n e = e
numbered_end course r k (one ∷ records) b n e =
    let t = taken course r k one.payload (λ next s. numbered_from next s (numbered (k + 1) (bytes_of records))) b n e in
    taken_at course r one.at one.payload t.change t.next (λ next s. numbered_from next s records) t.spelled t.after t.legal
    ∙ numbered_end t.next (acted r t.change) (k + 1) records b n t.rest

pub numbered_all : (r : Journal) (b : Rebuilt) (n : ℕ) → numbered_replayed (nothing_rebuilt r.shape) (records_of r.records) ≡ Numbered.All b n → NumberedRebuild r b n
numbered_all r b n e = numbered_end Begun (nothing_rebuilt r.shape) 0 r.records b n e

-- ---- a payload that is refused

refused_same : (m n : ℕ) → Numbered.Refused m ≡ Numbered.Refused n → m ≡ n
refused_same m n e = cc

-- what refused a record under one number refuses it under another, or a later one does
by_number :
    (P : Numbered → Type 0) (course : Course) (r : Rebuilt) (k at n : ℕ) (number : Option ℕ) (change : Option Change) (f g : Course → Rebuilt → Numbered)
    → (n ≡ k → P (Numbered.Refused at)) → ((next : Course) (x : Rebuilt) → f next x ≡ Numbered.Refused n → P (g next x)) → one_by k course r number change f ≡ Numbered.Refused n → P (one_by at course r number change g)
by_number P course r k at n None change f g here later e = here (sym (refused_same k n e))
by_number P course r k at n (Some m) None f g here later e = here (sym (refused_same k n e))
by_number P course r k at n (Some m) (Some c) f g here later e = by_next (with_number course m (begins_base c) (continues_base c)) e
  where
    by_test : (next : Course) (b : Bool) → if_allowed b k (f next (acted r c)) ≡ Numbered.Refused n → P (if_allowed b at (g next (acted r c)))
    by_test next true h = later next (acted r c) h
    by_test next false h = here (sym (refused_same k n h))

    by_next : (o : Option Course) → or_refused k o (λ next. if_allowed (is_legal r c) k (f next (acted r c))) ≡ Numbered.Refused n → P (or_refused at o (λ next. if_allowed (is_legal r c) at (g next (acted r c))))
    by_next None h = here (sym (refused_same k n h))
    by_next (Some next) h = by_test next (is_legal r c) h

-- a record is refused under its own number or a later one
refused_later : (course : Course) (r : Rebuilt) (k : ℕ) (payloads : List (List ℕ)) (n : ℕ) → numbered_from course r (numbered k payloads) ≡ Numbered.Refused n → k ≤ n
refused_later course r k [] n e = cc
refused_later course r k (payload ∷ payloads) n e =
    let later : Course → Rebuilt → Numbered = λ next s. numbered_from next s (numbered (k + 1) payloads) in
    by_number (λ x. k ≤ n) course r k k n (number_in payload) (change_in (without_number payload)) later later (λ same. omega (arith, same))
    (λ next x h. let low = refused_later next x (k + 1) payloads n h in omega (arith, low)) e

one_same : (x : Record) (y : Record) → Some x ≡ Some y → x ≡ y
one_same x y e = cc

refused_at :
    (j : Journal) (course : Course) (r : Rebuilt) (k i n : ℕ) (records : List Record) (one : Record) → n ≡ k + i
    → numbered_from course r (numbered k (bytes_of records)) ≡ Numbered.Refused n → slice_get (placed j.start records) i ≡ Some one → by_numbers j (numbered_from course r records) ≡ MirrorReading.Bad one.at
refused_at j course r k i n [] one is e at = cc
refused_at j course r k zero n (first ∷ records) one is e at =
    by_number (λ x. by_numbers j x ≡ MirrorReading.Bad one.at) course r k first.at n (number_in first.payload) (change_in (without_number first.payload)) (λ next s. numbered_from next s (numbered (k + 1) (bytes_of records)))
    (λ next s. numbered_from next s records) (λ same. ap (λ (x : Record). MirrorReading.Bad x.at) (one_same _ one at))
    (λ next x h. let late = refused_later next x (k + 1) (bytes_of records) n h in absurd (omega (arith, is, late))) e
refused_at j course r k (suc i) n (first ∷ records) one is e at =
    by_number (λ x. by_numbers j x ≡ MirrorReading.Bad one.at) course r k first.at n (number_in first.payload) (change_in (without_number first.payload)) (λ next s. numbered_from next s (numbered (k + 1) (bytes_of records)))
    (λ next s. numbered_from next s records) (λ same. absurd (omega (arith, is, same)))
    (λ next x h. refused_at j next x (k + 1) i n records one (omega (arith, is)) h at) e

pub numbered_bad :
    (image : List ℕ) (r : Journal) (k : ℕ) (one : Record) → is_first_version image ≡ false → Reads image r
    → numbered_replayed (nothing_rebuilt r.shape) (records_of r.records) ≡ Numbered.Refused k
    → slice_get (placed r.start r.records) k ≡ Some one → mirror_reading image ≡ MirrorReading.Bad one.at
numbered_bad image r k one not_first reads e at =
    reading_as image r not_first reads (numbered_replayed (nothing_rebuilt r.shape) r.records) refl
    ∙ refused_at r Begun (nothing_rebuilt r.shape) 0 k k r.records one (omega arith) e at
