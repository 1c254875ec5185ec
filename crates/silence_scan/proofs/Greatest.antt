-- The greatest of joined lists, and peaks as greatest ones.
use Rattle.std.proofs.Common.{◌≡◌, ℕ, ◌+◌, ◌≤◌, List, [], ◌∷◌, ◌++◌, length, map, max, sym, ◌∙◌, ap, arith, refl, take, drop, slice_range, length-take, length-drop}
use Rattle.std.specs.Prelude.{fold}
use Rattle.std.specs.Simd.Lanes.{zip2}
use Rattle.std.proofs.Math.Seq.{take-add}
use Rattle.std.proofs.lemmas.List.Sums.{fold-append}
use Rattle.std.proofs.lemmas.List.{length-map}
use Rattle.voice_model.specs.Talk.{loud, peak}
use Rattle.silence_scan.specs.Greatest.{greatest}

pub max_assoc : (a b c : ℕ) → max (max a b) c ≡ max a (max b c)
max_assoc a b c = omega arith

pub greatest-append : (xs ys : List ℕ) → greatest (xs ++ ys) ≡ max (greatest xs) (greatest ys)
greatest-append [] ys = omega arith
greatest-append (x ∷ xs) ys = ap (max x) (greatest-append xs ys) ∙ sym (max_assoc x (greatest xs) (greatest ys))

pub greatest_push : (xs ys : List ℕ) (x : ℕ) → ys ≡ xs ++ x ∷ [] → greatest ys ≡ max (greatest xs) x
greatest_push xs ys x e = ap greatest e ∙ (greatest-append xs (x ∷ []) ∙ (omega arith))

pub greatest-zip2 : (xs ys : List ℕ) → length xs ≡ length ys → greatest (zip2 max xs ys) ≡ max (greatest xs) (greatest ys)
greatest-zip2 [] [] e = refl
greatest-zip2 [] (y ∷ ys) e = absurd (omega arith)
greatest-zip2 (x ∷ xs) [] e = absurd (omega arith)
greatest-zip2 (x ∷ xs) (y ∷ ys) e =
    let rest : greatest (zip2 max xs ys) ≡ max (greatest xs) (greatest ys) = greatest-zip2 xs ys (omega arith) in
    omega arith

peak_from : (a : ℕ) (w : List ℕ) → fold (λ most b. max most (loud b)) a w ≡ max a (greatest (map loud w))
peak_from a [] = omega arith
peak_from a (x ∷ xs) = peak_from (max a (loud x)) xs ∙ max_assoc a (loud x) (greatest (map loud xs))

pub peak_is_greatest : (w : List ℕ) → peak w ≡ greatest (map loud w)
peak_is_greatest w = let e : fold (λ most b. max most (loud b)) 0 w ≡ max 0 (greatest (map loud w)) = peak_from 0 w in e ∙ (omega arith)

pub peak-append : (xs ys : List ℕ) → peak (xs ++ ys) ≡ max (peak xs) (peak ys)
peak-append xs ys =
    fold-append (λ most b. max most (loud b)) 0 xs ys ∙ (peak_from (peak xs) ys ∙ ap (max (peak xs)) (sym (peak_is_greatest ys)))

pub zip2-length : (xs ys : List ℕ) → length xs ≡ length ys → length (zip2 max xs ys) ≡ length xs
zip2-length [] [] e = refl
zip2-length [] (y ∷ ys) e = absurd (omega arith)
zip2-length (x ∷ xs) [] e = absurd (omega arith)
zip2-length (x ∷ xs) (y ∷ ys) e =
    let rest : length (zip2 max xs ys) ≡ length xs = zip2-length xs ys (omega arith) in
    omega arith

pub range_length : (bs : List ℕ) (at n : ℕ) → at + n ≤ length bs → length (slice_range bs at (at + n)) ≡ n
range_length bs at n le =
    let same : slice_range bs at (at + n) ≡ take n (drop at bs) = grind arith in
    ap length same ∙ simp (length-take, length-drop) (omega arith)

pub block_length : (bs block : List ℕ) (at : ℕ) → at + 32 ≤ length bs → block ≡ map loud (slice_range bs at (at + 32)) → length block ≡ 32
block_length bs block at le f = ap length f ∙ (length-map (slice_range bs at (at + 32)) loud ∙ range_length bs at 32 le)

-- a step of `peak` over a block of lanes
pub block_taken : (bs lanes block : List ℕ) (at : ℕ) → at + 32 ≤ length bs → length lanes ≡ 32 → greatest lanes ≡ peak (take at bs) → block ≡ map loud (slice_range bs at (at + 32)) → length block ≡ 32 → greatest (zip2 max lanes block) ≡ peak (take (at + 32) bs)
block_taken bs lanes block at le long e f n =
    let same : slice_range bs at (at + 32) ≡ take 32 (drop at bs) = grind arith in
    greatest-zip2 lanes block (long ∙ sym n)
    ∙ (ap (λ k. max k (greatest block)) e
    ∙ (ap (λ k. max (peak (take at bs)) (greatest k)) (f ∙ ap (map loud) same)
    ∙ (ap (max (peak (take at bs))) (sym (peak_is_greatest (take 32 (drop at bs))))
    ∙ (sym (peak-append (take at bs) (take 32 (drop at bs))) ∙ ap peak (sym (take-add at 32 bs))))))
