-- Elements of lists by index.
use Rattle.std.proofs.Common.{◌≡◌, ℕ, zero, suc, ◌+◌, ◌<◌, ◌≤◌, List, [], ◌∷◌, ◌++◌, length, get_or, drop, Some, refl, sym, ◌∙◌, ap, subst, arith, length-append}
use Rattle.std.specs.Prelude.{slice_get, Result, Ok, Err, OnOk, OnErr}
use Rattle.std.proofs.lemmas.List.{append-nil}
use Rattle.std.proofs.lemmas.Option.{slice_get_within, get_or_from_slice_get}
use Rattle.std.proofs.Math.ListN.{drop_of_length-le}
use Rattle.voice_units.specs.declared.pieces.Take.{Take}
use Rattle.voice_model.specs.Tapes.{taken}
use Rattle.voice_model.specs.Valid.{Every}
use Rattle.recovery.proofs.RowsGone.{drop_next}
use Rattle.mirror_sender.specs.Coming.{bytes_taken}

-- what each element keeps, one of them keeps
pub every_get : {A : Type 0} (P : A → Type 0) (xs : List A) (k : ℕ) (x : A) → Every P xs → k < length xs → P (get_or xs k x)
every_get P [] k x h lt = absurd (omega arith)
every_get P (y ∷ xs) zero x h lt = h.0
every_get P (y ∷ xs) (suc k) x h lt = every_get P xs k x h.1 (omega arith)

-- within a list it does not matter what stands behind it
pub same_get : {A : Type 0} (xs : List A) (k : ℕ) (x y : A) → k < length xs → get_or xs k x ≡ get_or xs k y
same_get [] k x y lt = absurd (omega arith)
same_get (z ∷ xs) zero x y lt = refl
same_get (z ∷ xs) (suc k) x y lt = same_get xs k x y (omega arith)

-- an element that is found stands there
pub found_get : {A : Type 0} (xs : List A) (k : ℕ) (x : A) → slice_get xs k ≡ Some x → x ≡ get_or xs k x
found_get xs k x e = sym (get_or_from_slice_get xs k x x e)

-- the bytes of takes from one on
pub dropped : (tapes : List (List ℕ)) (takes : List Take) (k : ℕ) (x : Take) → k < length takes → length (bytes_taken tapes (drop k takes)) ≡ length (taken tapes (get_or takes k x)) + length (bytes_taken tapes (drop (k + 1) takes))
dropped tapes takes k x lt =
    let here = get_or takes k x in
    ap (λ l. length (bytes_taken tapes l)) (drop_next takes k here lt (same_get takes k x here lt)) ∙ length-append (taken tapes here) (bytes_taken tapes (drop (k + 1) takes))

pub dropped_all : (tapes : List (List ℕ)) (takes : List Take) (k : ℕ) → length takes ≤ k → length (bytes_taken tapes (drop k takes)) ≡ 0
dropped_all tapes takes k over = ap (λ l. length (bytes_taken tapes l)) (drop_of_length-le takes over)

-- what stands behind a list of takes
abbrev pub no_take : Take
no_take = record { tape = 0; from = 0; len = 0 }

-- ---- answers

pub on_err : {A E : Type 0} (r : Result A E) (P : Type 0) → P → OnErr r P
on_err (Ok x) P h = tt
on_err (Err e) P h = h

pub on_ok : {A E : Type 0} (r : Result A E) (P : Type 0) → P → OnOk r P
on_ok (Ok x) P h = h
on_ok (Err e) P h = tt

-- one fact for another where the answer is Ok, or Err
pub ok_then : {A E : Type 0} (r : Result A E) (P Q : Type 0) → (P → Q) → OnOk r P → OnOk r Q
ok_then (Ok x) P Q f h = f h
ok_then (Err e) P Q f h = tt

pub err_then : {A E : Type 0} (r : Result A E) (P Q : Type 0) → (P → Q) → OnErr r P → OnErr r Q
err_then (Ok x) P Q f h = tt
err_then (Err e) P Q f h = f h
