use Rattle.std.proofs.Common.{◌≡◌, ℕ, ◌+◌, ◌*◌, ◌<◌, ◌≤◌, ◌^◌, List, [], ◌∷◌, length, map, replicate, sym, ◌∙◌, ap, arith, refl, take, drop, sum_by, length-take, slice_range}
use Rattle.std.proofs.lemmas.Simd.{zip2_splat, zip2_splat_left, map-map}
use Rattle.std.specs.Simd.Lanes.{Each1, zip2, sum_l, sel_l}
use Rattle.std.specs.Prelude.{nat_lt, max}
use Rattle.std.proofs.Common.{cond}
use Rattle.std.specs.List.{slice_range}
use Rattle.std.proofs.lemmas.List.Sums.{sum_by-append, sum_by-take-le, sum_by-cons}
use Rattle.std.proofs.Math.Seq.{take-add}
use Rattle.std.proofs.lemmas.List.{length-map, drop-drop}
use Rattle.voice_model.specs.Talk.{loud}

pub map_each : (f g : ℕ → ℕ) (xs : List ℕ) → Each1 (λ x. f x ≡ g x) xs → map f xs ≡ map g xs
map_each f g [] e = refl
map_each f g (x ∷ xs) e = ap (λ y. y ∷ map f xs) e.0 ∙ ap (λ ys. g x ∷ ys) (map_each f g xs e.1)

pub each : (P : ℕ → Type 0) → ((x : ℕ) → P x) → (xs : List ℕ) → Each1 P xs
each P h [] = tt
each P h (x ∷ xs) = (h x, each P h xs)

pub lanes_loud : (F G : ℕ → ℕ → ℕ) → ((x : ℕ) → F 127 (G x 127) ≡ loud x) → (v : List ℕ) → length v ≡ 32 → zip2 F (replicate 32 127) (zip2 G v (replicate 32 127)) ≡ map loud v
lanes_loud F G h v e =
    ap (zip2 F (replicate 32 127)) (zip2_splat G v 32 127 e)
    ∙ (zip2_splat_left F 127 32 (map (λ x. G x 127) v) (length-map v (λ x. G x 127) ∙ e)
    ∙ (map-map (λ y. F 127 y) (λ x. G x 127) v
    ∙ map_each (λ x. F 127 (G x 127)) loud v (each (λ x. F 127 (G x 127) ≡ loud x) h v)))

pub sum_l-loud : (xs : List ℕ) → sum_l (map loud xs) ≡ sum_by loud xs
sum_l-loud [] = refl
sum_l-loud (x ∷ xs) = ap (λ n. loud x + n) (sum_l-loud xs) ∙ sym (sum_by-cons loud x xs)

pub loud_bound : (xs : List ℕ) → sum_by loud xs ≤ 127 * length xs
loud_bound [] = omega arith
loud_bound (x ∷ xs) =
    let one : loud x ≤ 127 = omega arith in
    let rest : sum_by loud xs ≤ 127 * length xs = loud_bound xs in
    let sum : sum_by loud (x ∷ xs) ≡ loud x + sum_by loud xs = sum_by-cons loud x xs in
    omega (arith, one, rest, sum)

pub more : (bs : List ℕ) (at n t b : ℕ) → t ≡ sum_by loud (take at bs) → b ≡ sum_by loud (take n (drop at bs)) → t + b ≡ sum_by loud (take (at + n) bs)
more bs at n t b e f = rw (e, f, take-add at n bs, sum_by-append loud (take at bs) (take n (drop at bs))) refl

pub below : (bs : List ℕ) (k : ℕ) → length bs ≤ 2 ^ 30 → sum_by loud (take k bs) < 2 ^ 38
below bs k h = omega (arith, sum_by-take-le loud bs k, loud_bound bs, h)

pub ranged : (bs : List ℕ) (at n : ℕ) → sum_by loud (slice_range bs at (at + n)) ≡ sum_by loud (take n (drop at bs))
ranged bs at n = let same : slice_range bs at (at + n) ≡ take n (drop at bs) = grind arith in ap (sum_by loud) same

pub sel_max : (xs ys : List ℕ) → sel_l (zip2 nat_lt xs ys) ys xs ≡ zip2 max xs ys
sel_max [] ys = refl
sel_max (x ∷ xs) [] = refl
sel_max (x ∷ xs) (y ∷ ys) =
    let one : cond (nat_lt x y) y x ≡ max x y = grind arith in
    ap (λ z. z ∷ sel_l (zip2 nat_lt xs ys) ys xs) one ∙ ap (λ zs. max x y ∷ zs) (sel_max xs ys)

-- so few bytes have a loudness that fits
pub taken_small : (bs : List ℕ) (k : ℕ) → k ≤ 2 ^ 16 → sum_by loud (take k bs) ≤ 2 ^ 31
taken_small bs k h = omega (arith, loud_bound (take k bs), length-take k bs, h)

-- a step of `blocks_loud` over a block of lanes
pub block_added : (bs block : List ℕ) (at done sums next : ℕ) → sums ≡ sum_by loud (take done (drop at bs)) → block ≡ map loud (slice_range bs (at + done) (at + done + 32)) → next ≡ sums + sum_l block → next ≡ sum_by loud (take (done + 32) (drop at bs))
block_added bs block at done sums next e f g =
    let one : sum_l block ≡ sum_by loud (take 32 (drop done (drop at bs))) = ap sum_l f ∙ (sum_l-loud (slice_range bs (at + done) (at + done + 32)) ∙ (ranged bs (at + done) 32 ∙ ap (λ xs. sum_by loud (take 32 xs)) (sym (drop-drop done at bs)))) in
    g ∙ more (drop at bs) done 32 sums (sum_l block) e one

-- a loudness is at most 127
pub louds_small : (xs : List ℕ) → Each1 (λ a. a ≤ 127) (map loud xs)
louds_small [] = tt
louds_small (x ∷ xs) = (omega arith, louds_small xs)

-- two blocks side by side
pub pair_sum : (bs low high : List ℕ) (at : ℕ) → low ≡ map loud (slice_range bs at (at + 32)) → high ≡ map loud (slice_range bs (at + 32) (at + 32 + 32)) → sum_l low + sum_l high ≡ sum_by loud (slice_range bs at (at + 64))
pair_sum bs low high at e f =
    let one : sum_l low ≡ sum_by loud (take 32 (drop at bs)) = ap sum_l e ∙ (sum_l-loud (slice_range bs at (at + 32)) ∙ ranged bs at 32) in
    let two : sum_l high ≡ sum_by loud (take 32 (drop 32 (drop at bs))) = ap sum_l f ∙ (sum_l-loud (slice_range bs (at + 32) (at + 32 + 32)) ∙ (ranged bs (at + 32) 32 ∙ ap (λ xs. sum_by loud (take 32 xs)) (sym (drop-drop 32 at bs)))) in
    more (drop at bs) 32 32 (sum_l low) (sum_l high) one two ∙ sym (ranged bs at 64)

-- a step of `blocks_loud` over two blocks
pub pair_added : (bs : List ℕ) (at done sums pair next : ℕ) → sums ≡ sum_by loud (take done (drop at bs)) → pair ≡ sum_by loud (slice_range bs (at + done) (at + done + 64)) → next ≡ sums + pair → next ≡ sum_by loud (take (done + 64) (drop at bs))
pair_added bs at done sums pair next e f g =
    let there : pair ≡ sum_by loud (take 64 (drop done (drop at bs))) = f ∙ (ranged bs (at + done) 64 ∙ ap (λ xs. sum_by loud (take 64 xs)) (sym (drop-drop done at bs))) in
    g ∙ more (drop at bs) done 64 sums pair e there
