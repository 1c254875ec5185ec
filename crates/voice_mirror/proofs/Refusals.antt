-- The payload that replay refuses.
use Rattle.std.proofs.Common.{◌≡◌, ℕ, suc, ◌+◌, Bool, true, false, List, [], ◌∷◌, Option, Some, None, refl, sym, subst, arith}
use Rattle.std.specs.Prelude.{slice_get}
use Rattle.voice_model.specs.Spelling.{change_in}
use Rattle.voice_model.specs.Replay.{Rebuilt, is_legal, acted}
use Rattle.voice_model.specs.declared.changes.Change.{Change}
use Rattle.disk_areas.specs.Areas.{Record}
use Rattle.recovery.specs.Shown.{numbered}
use Rattle.recovery.specs.Replayed.{bytes_of, records_of}
use Rattle.mirror_replay.specs.declared.courses.Course.{Course}
use Rattle.mirror_replay.specs.declared.courses.Course.TheVariants.{Begun}
use Rattle.mirror_replay.specs.Numbered.{Numbered, number_in, without_number, with_number, begins_base, continues_base, if_allowed, or_refused, numbered_from, numbered_replayed}
use Rattle.mirror_readings.proofs.Apart.{one_by}

refused_same : (m n : ℕ) → Numbered.Refused m ≡ Numbered.Refused n → m ≡ n
refused_same m n e = cc

-- a record is refused under this number, or a later one is
by_record :
    (P : Type 0) (course : Course) (r : Rebuilt) (k n : ℕ) (number : Option ℕ) (change : Option Change) (f : Course → Rebuilt → Numbered)
    → (n ≡ k → P) → ((next : Course) (x : Rebuilt) → f next x ≡ Numbered.Refused n → P) → one_by k course r number change f ≡ Numbered.Refused n → P
by_record P course r k n None change f here later e = here (sym (refused_same k n e))
by_record P course r k n (Some m) None f here later e = here (sym (refused_same k n e))
by_record P course r k n (Some m) (Some c) f here later e = by_next (with_number course m (begins_base c) (continues_base c)) e
  where
    by_test : (next : Course) (b : Bool) → if_allowed b k (f next (acted r c)) ≡ Numbered.Refused n → P
    by_test next true h = later next (acted r c) h
    by_test next false h = here (sym (refused_same k n h))

    by_next : (o : Option Course) → or_refused k o (λ next. if_allowed (is_legal r c) k (f next (acted r c))) ≡ Numbered.Refused n → P
    by_next None h = here (sym (refused_same k n h))
    by_next (Some next) h = by_test next (is_legal r c) h

-- among payloads that are numbered from k on, one has number n
record IsThere (ps : List Record) (k n : ℕ) : Type 0 where
  index : ℕ
  one : Record
  number : n ≡ k + index
  at : slice_get ps index ≡ Some one

refused_from : (course : Course) (r : Rebuilt) (k : ℕ) (ps : List Record) (n : ℕ) → numbered_from course r (numbered k (bytes_of ps)) ≡ Numbered.Refused n → IsThere ps k n
refused_from course r k [] n e = cc
refused_from course r k (p ∷ ps) n e =
    by_record (IsThere (p ∷ ps) k n) course r k n (number_in p.payload) (change_in (without_number p.payload)) (λ next s. numbered_from next s (numbered (k + 1) (bytes_of ps))) here (λ next s h. later (refused_from next s (k + 1) ps n h)) e
  where
    here : n ≡ k → IsThere (p ∷ ps) k n
    here same = record { index = 0; one = p; number = omega (arith, same); at = refl }

    later : IsThere ps (k + 1) n → IsThere (p ∷ ps) k n
    later there = let number = there.number in record { index = suc there.index; one = there.one; number = omega (arith, number); at = there.at }

-- the payload of this index
pub record HasPayload (ps : List Record) (k : ℕ) : Type 0 where
  pub one : Record
  pub at : slice_get ps k ≡ Some one

-- the payload that is refused is among them
pub refused_there : (r : Rebuilt) (ps : List Record) (k : ℕ) → numbered_replayed r (records_of ps) ≡ Numbered.Refused k → HasPayload ps k
refused_there r ps k e =
    let there = refused_from Begun r 0 ps k e in
    let number = there.number in
    let same : there.index ≡ k = omega (arith, number) in
    record { one = there.one; at = subst (λ (i : ℕ). slice_get ps i ≡ Some there.one) same there.at }
