-- Parts of images.
use Rattle.std.proofs.Common.{◌≡◌, ℕ, zero, suc, ◌+◌, ◌<◌, ◌≤◌, List, [], ◌∷◌, ◌++◌, length, get_or, refl, ap, sym, ◌∙◌, arith, add-zero}
use Rattle.voice_outside.specs.Disk.{segment, AgreesOutside}

pub segment_shifted : (a b : List ℕ) (p q k : ℕ) → ((j : ℕ) → j < k → get_or a (p + j) 0 ≡ get_or b (q + j) 0) → segment a p k ≡ segment b q k
unfolding segment
segment_shifted a b p q zero same = refl
segment_shifted a b p q (suc k) same =
    let here : get_or a p 0 ≡ get_or b q 0 = sym (ap (λ (n : ℕ). get_or a n 0) (add-zero p)) ∙ same 0 (omega arith) ∙ ap (λ (n : ℕ). get_or b n 0) (add-zero q) in
    let later : (j : ℕ) → j < k → get_or a (suc p + j) 0 ≡ get_or b (suc q + j) 0 =
    λ j lt. let pj : p + suc j ≡ suc p + j = omega arith in let qj : q + suc j ≡ suc q + j = omega arith in
    sym (ap (λ (n : ℕ). get_or a n 0) pj) ∙ same (suc j) (omega arith) ∙ ap (λ (n : ℕ). get_or b n 0) qj in
    ap (λ (x : ℕ). x ∷ segment a (suc p) k) here ∙ ap (λ (l : List ℕ). get_or b q 0 ∷ l) (segment_shifted a b (suc p) (suc q) k later)

-- equal bytes, equal parts
pub segment_same : (a b : List ℕ) (p k : ℕ) → ((i : ℕ) → p ≤ i → i < p + k → get_or a i 0 ≡ get_or b i 0) → segment a p k ≡ segment b p k
segment_same a b p k same = segment_shifted a b p p k (λ j lt. same (p + j) (omega arith) (omega arith))

pub get_or-segment : (a : List ℕ) (p k i : ℕ) → i < k → get_or (segment a p k) i 0 ≡ get_or a (p + i) 0
unfolding segment
get_or-segment a p zero i lt = absurd (omega arith)
get_or-segment a p (suc k) zero lt = ap (λ (n : ℕ). get_or a n 0) (sym (add-zero p))
get_or-segment a p (suc k) (suc i) lt =
    let pi : suc p + i ≡ p + suc i = omega arith in get_or-segment a (suc p) k i (omega arith) ∙ ap (λ (n : ℕ). get_or a n 0) pi

segment_cons : (x : ℕ) (xs : List ℕ) (k : ℕ) → segment (x ∷ xs) 1 k ≡ segment xs 0 k
segment_cons x xs k = segment_shifted (x ∷ xs) xs 1 0 k (λ j lt. let oj : 1 + j ≡ suc j = omega arith in let zj : 0 + j ≡ j = omega arith in ap (λ (n : ℕ). get_or (x ∷ xs) n 0) oj ∙ sym (ap (λ (n : ℕ). get_or xs n 0) zj))

pub segment_whole : (xs : List ℕ) → segment xs 0 (length xs) ≡ xs
unfolding segment
segment_whole [] = refl
segment_whole (x ∷ xs) = ap (λ (l : List ℕ). x ∷ l) (segment_cons x xs (length xs) ∙ segment_whole xs)

-- a part of a part that is known
pub segment_part : (a xs ys : List ℕ) (p n i : ℕ) → segment a p n ≡ xs → i + length ys ≤ n → ((j : ℕ) → j < length ys → get_or xs (i + j) 0 ≡ get_or ys j 0) → segment a (p + i) (length ys) ≡ ys
segment_part a xs ys p n i is fits same =
    segment_shifted a ys (p + i) 0 (length ys) (λ j lt.
    let pij : p + i + j ≡ p + (i + j) = omega arith in
    let zj : 0 + j ≡ j = omega arith in
    ap (λ (m : ℕ). get_or a m 0) pij ∙ sym (get_or-segment a p n (i + j) (omega arith)) ∙ ap (λ (l : List ℕ). get_or l (i + j) 0) is ∙ same j lt ∙ sym (ap (λ (m : ℕ). get_or ys m 0) zj))
    ∙ segment_whole ys

pub get_or-append_front : (xs ys : List ℕ) (j : ℕ) → j < length xs → get_or (xs ++ ys) j 0 ≡ get_or xs j 0
get_or-append_front [] ys j lt = absurd (omega arith)
get_or-append_front (x ∷ xs) ys zero lt = refl
get_or-append_front (x ∷ xs) ys (suc j) lt = get_or-append_front xs ys j (omega arith)

pub get_or-append_back : (xs ys : List ℕ) (n j : ℕ) → n ≡ length xs → get_or (xs ++ ys) (n + j) 0 ≡ get_or ys j 0
get_or-append_back [] ys n j is = let nj : n + j ≡ j = omega arith in ap (λ (m : ℕ). get_or ys m 0) nj
get_or-append_back (x ∷ xs) ys zero j is = absurd (omega arith)
get_or-append_back (x ∷ xs) ys (suc n) j is =
    let nj : suc n + j ≡ suc (n + j) = omega arith in ap (λ (m : ℕ). get_or (x ∷ (xs ++ ys)) m 0) nj ∙ get_or-append_back xs ys n j (omega arith)

pub agrees_refl : (at n : ℕ) (a : List ℕ) → AgreesOutside at n a a
agrees_refl at n a = record { same_length = refl; before = λ i lt. refl; after = λ i le. refl }

pub agrees_trans : (at n : ℕ) (a b c : List ℕ) → AgreesOutside at n a b → AgreesOutside at n b c → AgreesOutside at n a c
agrees_trans at n a b c ab bc = record { same_length = bc.same_length ∙ ab.same_length; before = λ i lt. bc.before i lt ∙ ab.before i lt; after = λ i le. bc.after i le ∙ ab.after i le }

pub agrees_wider : (at n from m : ℕ) (a b : List ℕ) → from ≤ at → at + n ≤ from + m → AgreesOutside at n a b → AgreesOutside from m a b
agrees_wider at n from m a b le fits ab = record { same_length = ab.same_length; before = λ i lt. ab.before i (omega arith); after = λ i past. ab.after i (omega arith) }
