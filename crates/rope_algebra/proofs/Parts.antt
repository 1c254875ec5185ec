-- Parts of lists and of pieces.
use Rattle.std.proofs.Common.{◌≡◌, ℕ, zero, suc, ◌+◌, ◌-◌, ◌<◌, ◌≤◌, min, get_or, List, [], ◌∷◌, ◌++◌, length, take, drop, refl, sym, ◌∙◌, ap, ap₂, arith}
use Rattle.std.proofs.lemmas.List.{length-take, length-drop, length-append, take_all, drop_more}
use Rattle.voice_units.specs.declared.pieces.Piece.{Piece}
use Rattle.voice_units.specs.Spots.{spots_from, spots_in, spots_of, samples_in, slice, IsNormal}
use Rattle.voice_units.proofs.PiecesOfRopes.{length-spots_from}

-- ---- lists

pub take-nil : {A : Type 0} (n : ℕ) → ◌≡◌ {A = List A} (take n []) []
take-nil zero = refl
take-nil (suc n) = refl

pub drop-nil : {A : Type 0} (n : ℕ) → ◌≡◌ {A = List A} (drop n []) []
drop-nil zero = refl
drop-nil (suc n) = refl

pub drop-append : {A : Type 0} (n : ℕ) (xs ys : List A) → drop n (xs ++ ys) ≡ drop n xs ++ drop (n - length xs) ys
drop-append zero [] ys = refl
drop-append zero (x ∷ xs) ys = ap (λ k. (x ∷ xs) ++ drop k ys) (let e : 0 ≡ 0 - suc (length xs) = omega arith in e)
drop-append (suc n) [] ys = ap (λ k. drop k ys) (let e : suc n ≡ suc n - 0 = omega arith in e)
drop-append (suc n) (x ∷ xs) ys = drop-append n xs ys ∙ ap (λ k. drop n xs ++ drop k ys) (let e : n - length xs ≡ suc n - suc (length xs) = omega arith in e)

pub take-append : {A : Type 0} (n : ℕ) (xs ys : List A) → take n (xs ++ ys) ≡ take n xs ++ take (n - length (take n xs)) ys
take-append zero [] ys = refl
take-append zero (x ∷ xs) ys = refl
take-append (suc n) [] ys = ap (λ k. take k ys) (let e : suc n ≡ suc n - 0 = omega arith in e)
take-append (suc n) (x ∷ xs) ys = ap (λ l. x ∷ l) (take-append n xs ys) ∙ ap (λ k. x ∷ (take n xs ++ take k ys)) (let e : n - length (take n xs) ≡ suc n - suc (length (take n xs)) = omega arith in e)

-- a slice of two lists is a slice of the first one and what is left of it in the second one
pub slice-append : {A : Type 0} (xs ys : List A) (s n : ℕ) → slice (xs ++ ys) s n ≡ slice xs s n ++ slice ys (s - length xs) (n - length (slice xs s n))
slice-append xs ys s n = ap (take n) (drop-append s xs ys) ∙ take-append n (drop s xs) (drop (s - length xs) ys)

pub slice-nil : {A : Type 0} (s n : ℕ) → ◌≡◌ {A = List A} (slice [] s n) []
slice-nil {A} s n = ap (take n) (drop-nil {A = A} s) ∙ take-nil n

pub slice_all : {A : Type 0} (xs : List A) (n : ℕ) → length xs ≤ n → slice xs 0 n ≡ xs
slice_all xs n h = take_all n xs h

pub length-slice : {A : Type 0} (xs : List A) (s n : ℕ) → length (slice xs s n) ≡ min n (length xs - s)
length-slice xs s n = length-take n (drop s xs) ∙ ap (min n) (length-drop s xs)

-- the rest of a list from an item on
pub at_item : {A : Type 0} (xs : List A) (i : ℕ) (x : A) → i < length xs → x ≡ get_or xs i x → drop i xs ≡ x ∷ drop (i + 1) xs
at_item xs i x within is = drop_more xs i x within ∙ ap (λ y. y ∷ drop (i + 1) xs) (sym is)

-- ---- places and samples

pub length-spots_of : (ps : List Piece) → length (spots_of ps) ≡ samples_in ps
length-spots_of [] = refl
length-spots_of (p ∷ ps) =
    length-append (spots_in p) (spots_of ps) ∙ ap₂ (λ m n. m + n) (length-spots_from p.file p.from p.len) (length-spots_of ps)

pub same_run : (file f g m n : ℕ) → f ≡ g → m ≡ n → spots_from file f m ≡ spots_from file g n
same_run file f g m n e h = ap₂ (λ from len. spots_from file from len) e h

drop-run : (file from len s : ℕ) → drop s (spots_from file from len) ≡ spots_from file (from + min s len) (len - min s len)
drop-run file from len zero = same_run file _ _ _ _ (omega arith) (omega arith)
drop-run file from zero (suc s) = same_run file (from + min (suc s) 0) (from + min (suc s) 0) 0 (0 - min (suc s) 0) refl (omega arith)
drop-run file from (suc len) (suc s) = drop-run file (from + 1) len s ∙ same_run file _ _ _ _ (omega arith) (omega arith)

take-run : (file from len n : ℕ) → take n (spots_from file from len) ≡ spots_from file from (min len n)
take-run file from len zero = same_run file from from 0 (min len 0) refl (omega arith)
take-run file from zero (suc n) = same_run file from from 0 (min 0 (suc n)) refl (omega arith)
take-run file from (suc len) (suc n) =
    ap (λ l. record { file = file; place = from } ∷ l) (take-run file (from + 1) len n) ∙ same_run file from from (suc (min len n)) (min (suc len) (suc n)) refl (omega arith)

-- the places of a part of a run
pub slice-run : (file from len s n : ℕ) → slice (spots_from file from len) s n ≡ spots_from file (from + min s len) (min (len - min s len) n)
slice-run file from len s n = ap (take n) (drop-run file from len s) ∙ take-run file (from + min s len) (len - min s len) n

pub samples_in-append : (ps qs : List Piece) → samples_in (ps ++ qs) ≡ samples_in ps + samples_in qs
samples_in-append [] qs = omega arith
samples_in-append (p ∷ ps) qs = let rest = samples_in-append ps qs in omega (arith, rest)

-- normal pieces have at least one sample each
pub count_in_samples : (ps : List Piece) → IsNormal ps → length ps ≤ samples_in ps
count_in_samples [] h = omega arith
count_in_samples (p ∷ []) h = omega (arith, h)
count_in_samples (p ∷ q ∷ ps) h = let rest = count_in_samples (q ∷ ps) h.2 in omega (arith, h.0, rest)
