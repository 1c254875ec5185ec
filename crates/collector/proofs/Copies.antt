-- How often numbers stand in lists; lists that do not fall and have the same numbers are the same.
use Rattle.std.proofs.Common.{◌≡◌, ℕ, suc, ◌+◌, ◌≤◌, ◌<◌, List, [], ◌∷◌, ◌++◌, length, take, get_or, nat_lt, ◌==◌, refl, sym, ◌∙◌, ap, subst, arith}
use Rattle.std.specs.List.{sum_by}
use Rattle.std.specs.List.Sorted.{IsPermutation, IsNonDecreasingBy, IsSplitAroundByKey, IsSplitAroundByKeyClosure}
use denote.Ref.{Bor}
use denote.Param.Members.{Mut}
use Rattle.std.specs.Fn.{Called}
use Rattle.std.proofs.lemmas.Fn.{always_returns_same}
use Rattle.std.specs.Ordering.{nat_cmp}
use Rattle.std.proofs.lemmas.Map.Keys.{ge_from_not_lt}
use Rattle.std.proofs.lemmas.List.Sums.{sum_by-cons}
use Rattle.std.proofs.lemmas.List.Sorted.{sum_by-IsPermutation}
use Rattle.std.proofs.lemmas.Bool.{eqb-true, eq-eqb, ltb-true, ltb-false}
use Rattle.rope_table.specs.Table.{Every}
use Rattle.rope_table.proofs.InOrder.{split}
use Rattle.collector.specs.Due.{once, copies, Rises, AreLowest}

-- ---- copies

pub copies-append : (n : ℕ) (xs ys : List ℕ) → copies n (xs ++ ys) ≡ copies n xs + copies n ys
copies-append n [] ys = omega arith
copies-append n (x ∷ xs) ys = let rest = copies-append n xs ys in omega (arith, rest)

copies-sum : (n : ℕ) (xs : List ℕ) → copies n xs ≡ sum_by (λ x. once (x == n)) xs
copies-sum n [] = refl
copies-sum n (x ∷ xs) = ap (λ m. once (x == n) + m) (copies-sum n xs) ∙ sym (sum_by-cons (λ x. once (x == n)) x xs)

pub copies-permutation : (n : ℕ) (xs ys : List ℕ) → IsPermutation xs ys → copies n ys ≡ copies n xs
copies-permutation n xs ys h = copies-sum n ys ∙ sum_by-IsPermutation (λ x. once (x == n)) xs ys h ∙ sym (copies-sum n xs)

-- ---- lists that do not fall

every_from : (m : ℕ) (xs : List ℕ) → ((k : ℕ) → k < length xs → m ≤ get_or xs k 0) → Every (λ y. m ≤ y) xs
every_from m [] h = tt
every_from m (x ∷ xs) h = (h 0 (omega arith), every_from m xs (λ k within. h (suc k) (omega arith)))

pub rises_from : (xs : List ℕ) → IsNonDecreasingBy (λ x. x) xs → Rises xs
rises_from [] h = tt
rises_from (x ∷ xs) h = (every_from x xs (λ k within. h 0 (suc k) 0 (omega arith) (omega arith)), rises_from xs (λ i j d le within. h (suc i) (suc j) d (omega arith) (omega arith)))

here : (n x : ℕ) (xs : List ℕ) → x ≡ n → copies n (x ∷ xs) ≡ suc (copies n xs)
here n x xs e = ap (λ b. once b + copies n xs) (eq-eqb x n e) ∙ omega arith

-- a number of the list is no lower than what is in front
no_lower : (m n : ℕ) (xs : List ℕ) → Every (λ y. m ≤ y) xs → 0 < copies n xs → m ≤ n
no_lower m n [] all some = absurd (omega arith)
no_lower m n (x ∷ xs) all some = split (x == n)
    (λ e. let same = eqb-true x n e in omega (arith, same, all.0))
    (λ e. no_lower m n xs all.1 (subst (λ k. 0 < k) (ap (λ b. once b + copies n xs) e ∙ omega arith) some))

first_le : (x y : ℕ) (xs ys : List ℕ) → Every (λ z. x ≤ z) xs → copies y (x ∷ xs) ≡ copies y (y ∷ ys) → x ≤ y
first_le x y xs ys all e = no_lower x y (x ∷ xs) (omega arith, all) (let one = here y y ys refl in omega (arith, e, one))

pub same_rising : (xs ys : List ℕ) → Rises xs → Rises ys → ((n : ℕ) → copies n xs ≡ copies n ys) → xs ≡ ys
same_rising [] [] up also e = refl
same_rising [] (y ∷ ys) up also e = let one = here y y ys refl in let none = e y in absurd (omega (arith, one, none))
same_rising (x ∷ xs) [] up also e = let one = here x x xs refl in let none = e x in absurd (omega (arith, one, none))
same_rising (x ∷ xs) (y ∷ ys) up also e =
    let le = first_le x y xs ys up.0 (e y) in
    let ge = first_le y x ys xs also.0 (sym (e x)) in
    let same : x ≡ y = omega (arith, le, ge) in
    let rest = same_rising xs ys up.1 also.1 (λ n. let all = e n in let one = ap (λ m. once (m == n)) same in omega (arith, all, one)) in
    ap (λ m. m ∷ xs) same ∙ ap (λ l. y ∷ l) rest

-- ---- the lowest numbers

no_higher : (n x : ℕ) (xs : List ℕ) → ((k : ℕ) → k < length xs → get_or xs k 0 ≤ x) → 0 < copies n xs → n ≤ x
no_higher n x [] all some = absurd (omega arith)
no_higher n x (y ∷ ys) all some = split (y == n)
    (λ e. let same = eqb-true y n e in let top = all 0 (omega arith) in omega (arith, same, top))
    (λ e. no_higher n x ys (λ k within. all (suc k) (omega arith)) (subst (λ k. 0 < k) (ap (λ b. once b + copies n ys) e ∙ omega arith) some))

-- what a selection leaves in front
lowest_split : (front back all : List ℕ) (x : ℕ) → IsSplitAroundByKey (λ (n : ℕ). n) nat_cmp front x back → IsPermutation all (front ++ x ∷ back) → AreLowest front all
lowest_split front back all x around same = record {
  others = x ∷ back;
  parts = λ n. sym (copies-permutation n all (front ++ x ∷ back) same) ∙ copies-append n front (x ∷ back);
  below = λ n some.
      let le : n ≤ x = no_higher n x front (λ k within. ge_from_not_lt x (get_or front k 0) (around.0 k 0 within)) some in
      (le, every_from n back (λ k within. let up = ge_from_not_lt (get_or back k 0) x (around.1 k 0 within) in omega (arith, le, up)));
}

-- from the clauses of a selection, where each call gives the number itself
pub lowest_selected : {F : Type 0} {g : Mut F (Bor ℕ × Unit {0}) ℕ} {f : F} (front back all : List ℕ) (x : ℕ) → IsSplitAroundByKeyClosure g nat_cmp f front x back → IsPermutation all (front ++ x ∷ back)
    → ((a : Bor ℕ × Unit {0}) (r : ℕ) (f' : F) → Called g f a r f' → (r ≡ a.0.now) × (f' ≡ f)) → AreLowest front all
lowest_selected {g = g} {f = f} front back all x around same h = lowest_split front back all x (around (λ (n : ℕ). n) (always_returns_same g (λ a r. r ≡ a.0.now) f h)) same

lowest_rise : (xs others rising : List ℕ) → Rises xs → ((n : ℕ) → 0 < copies n xs → Every (λ y. n ≤ y) others) → Rises rising → ((n : ℕ) → copies n rising ≡ copies n xs + copies n others) → xs ≡ take (length xs) rising
lowest_rise [] others rising up below also e = refl
lowest_rise (x ∷ xs) others [] up below also e = let one = here x x xs refl in let none = e x in absurd (omega (arith, one, none))
lowest_rise (x ∷ xs) others (y ∷ ys) up below also e =
    let one = here x x xs refl in
    let own = here y y ys refl in
    let at_x = e x in
    let at_y = e y in
    let ge : y ≤ x = no_lower y x (y ∷ ys) (omega arith, also.0) (omega (arith, one, at_x)) in
    let le : x ≤ y = split (nat_lt 0 (copies y (x ∷ xs)))
    (λ h. no_lower x y (x ∷ xs) (omega arith, up.0) (ltb-true 0 (copies y (x ∷ xs)) h))
    (λ h. let none = ltb-false 0 (copies y (x ∷ xs)) h in no_lower x y others (below x (omega (arith, one))) (omega (arith, own, at_y, none))) in
    let same : x ≡ y = omega (arith, le, ge) in
    let rest = lowest_rise xs others ys up.1 (λ n some. below n (omega (arith, some))) also.1 (λ n. let all = e n in let once_n = ap (λ m. once (m == n)) same in omega (arith, all, once_n)) in
    ap (λ m. m ∷ xs) same ∙ ap (λ l. y ∷ l) rest

-- the lowest numbers in rising order are the front of all in rising order
pub lowest_first : (low first all rising : List ℕ) → AreLowest low all → Rises first → ((n : ℕ) → copies n first ≡ copies n low) → Rises rising → ((n : ℕ) → copies n all ≡ copies n rising) → first ≡ take (length first) rising
lowest_first low first all rising h up same also e =
    lowest_rise first h.others rising up (λ n some. h.below n (subst (λ k. 0 < k) (same n) some)) also
    (λ n. let now = e n in let was = h.parts n in let of = same n in omega (arith, now, was, of))
