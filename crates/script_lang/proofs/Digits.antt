-- The number that digits write.
use Rattle.std.proofs.Common.{◌≡◌, ℕ, suc, zero, ◌+◌, ◌-◌, ◌*◌, ◌^◌, ◌<◌, ◌≤◌, Bool, true, false, cond, ◌&&◌, ◌||◌, inl, inr, List, [], ◌∷◌, ◌++◌, length, get_or, take, sym, refl, ap, ◌∙◌, arith, rules, leb, ltb, eqb, add-one, lit<, Some, None}
use Rattle.std.specs.List.{list_all}
use Rattle.std.specs.Fmt.{decimal}
use Rattle.std.proofs.Math.Nat.{pow-le-pow_right, pow-suc}
use Rattle.std.proofs.lemmas.Str.Parse.{IsNumeralModel, numerals_by_fold}
use Rattle.std.proofs.lemmas.Fmt.{digits_decimal, digits_value-decimal, decimal-digits_value, length-decimal-le, decimal_nonempty, decimal_digit, first_decimal}
use Rattle.std.proofs.lemmas.Bool.Decides.{nat_tests}
use Rattle.std.proofs.lemmas.Bool.{cases_lt}
use Rattle.std.proofs.lemmas.List.{take_more}
use Rattle.script_lang.specs.Numbers.{is_digit, read_on, is_number, number_at_most}

own : IsNumeralModel (λ ds. list_all is_digit ds ≡ true) (read_on 0)
own = numerals_by_fold _ (search rules) read_on (search rules)

both : (a b : Bool) → (a && b) ≡ true → (a ≡ true) × (b ≡ true)
both true b e = (refl, e)
both false b e = cc

in_range : (b : ℕ) → is_digit b ≡ true → (48 ≤ b) × (b ≤ 57)
in_range b e = (grind (arith, nat_tests), grind (arith, nat_tests))

pub digit_at : (word : List ℕ) (i : ℕ) → list_all is_digit word ≡ true → i < length word → (48 ≤ get_or word i 0) × (get_or word i 0 ≤ 57)
digit_at [] i e h = absurd (omega arith)
digit_at (b ∷ bs) zero e h = in_range b (both (is_digit b) (list_all is_digit bs) e).0
digit_at (b ∷ bs) (suc i) e h = digit_at bs i (both (is_digit b) (list_all is_digit bs) e).1 (omega arith)

pub small : (i : ℕ) → i < 15 → 10 ^ i ≤ 10 ^ 14
small i h = pow-le-pow_right {n = 10} (lit< tt) (let g : i ≤ 14 = omega arith in g)

read_on-push : (n : ℕ) (ds : List ℕ) (c : ℕ) → read_on n (ds ++ c ∷ []) ≡ 10 * read_on n ds + (c - 48)
read_on-push n [] c = refl
read_on-push n (d ∷ ds) c = read_on-push (10 * n + (d - 48)) ds c

pub read_more : (word : List ℕ) (i n : ℕ) → i < length word → n ≡ read_on 0 (take i word) → 10 * n + (get_or word i 0 - 48) ≡ read_on 0 (take (i + 1) word)
read_more word i n h e =
    ap (λ m. 10 * m + (get_or word i 0 - 48)) e ∙ sym (read_on-push 0 (take i word) (get_or word i 0)) ∙ ap (read_on 0) (sym (take_more word i 0 h))

pub bounded : (i n d : ℕ) → n < 10 ^ i → d ≤ 9 → 10 * n + d < 10 ^ (i + 1)
bounded i n d h e =
    let p : 10 ^ (i + 1) ≡ 10 ^ i * 10 = ap (λ k. 10 ^ k) (add-one i) ∙ pow-suc 10 i in
    omega (arith, p)

all_true : (a b c d : Bool) → a ≡ true → b ≡ true → c ≡ true → d ≡ true → (a && b && c && d) ≡ true
all_true true true true true p q r s = refl
all_true false b c d p q r s = cc
all_true true false c d p q r s = cc
all_true true true false d p q r s = cc
all_true true true true false p q r s = cc

or_left : (a b : Bool) → a ≡ true → (a || b) ≡ true
or_left true b e = refl
or_left false b e = cc

or_right : (a b : Bool) → b ≡ true → (a || b) ≡ true
or_right true b e = refl
or_right false b e = e

lt_true : (m n : ℕ) → m < n → ltb m n ≡ true
lt_true m n h = grind (arith, nat_tests)

le_true : (m n : ℕ) → m ≤ n → leb m n ≡ true
le_true m n h = grind (arith, nat_tests)

eq_true : (m n : ℕ) → m ≡ n → eqb m n ≡ true
eq_true m n h = grind (arith, nat_tests)

canonical : (n : ℕ) → n < 2 ^ 64 → (ltb 48 (get_or (decimal n) 0 0) || eqb (length (decimal n)) 1) ≡ true
canonical n h =
    elim (cases_lt n 10) [
      | inl one ↦ or_right _ _ (eq_true _ _ (ap length (decimal_digit n one)))
      | inr more ↦ or_left _ _ (lt_true _ _ (first_decimal n (omega arith) h))
    ]

pub number-spelled : (n : ℕ) → n < 10 ^ 15 → is_number (decimal n) ≡ true
number-spelled n h =
    let fits : n < 2 ^ 64 = omega arith in
    all_true _ _ _ _ (lt_true _ _ (decimal_nonempty n fits)) (le_true _ _ (length-decimal-le 15 n (lit< tt) h fits)) (digits_decimal own n fits) (canonical n fits)

pub number-again : (most n : ℕ) → most < 10 ^ 15 → n ≤ most → number_at_most most (decimal n) ≡ Some n
unfolding number_at_most
number-again most n few h =
    let value : read_on 0 (decimal n) ≡ n = digits_value-decimal own n (omega arith) in
    let fits : leb (read_on 0 (decimal n)) most ≡ true = le_true _ _ (omega arith) in
    ap (λ t. cond (t && leb (read_on 0 (decimal n)) most) (Some (read_on 0 (decimal n))) None) (number-spelled n (omega arith))
    ∙ ap (λ t. cond t (Some (read_on 0 (decimal n))) None) fits ∙ ap Some value

chosen : {X : Type 0} (t : Bool) (x y : X) → cond t (Some x) None ≡ Some y → (t ≡ true) × (x ≡ y)
chosen true x y e = (refl, cc)
chosen false x y e = cc

not_zero_first : (m n : ℕ) → (ltb 48 m || eqb n 1) ≡ true → m ≡ 48 → n ≡ 1
not_zero_first m n e h = grind (arith, nat_tests)

lt_from : (m n : ℕ) → ltb m n ≡ true → m < n
lt_from m n h = grind (arith, nat_tests)

le_from : (m n : ℕ) → leb m n ≡ true → m ≤ n
le_from m n h = grind (arith, nat_tests)

pub number-found : (most n : ℕ) (word : List ℕ) → most < 10 ^ 15 → number_at_most most word ≡ Some n → (word ≡ decimal n) × (n ≤ most)
unfolding number_at_most
number-found most n word few e =
    let t = chosen (is_number word && leb (read_on 0 word) most) (read_on 0 word) n e in
    let b = both (is_number word) (leb (read_on 0 word) most) t.0 in
    let c = both (ltb 0 (length word) && leb (length word) 15 && list_all is_digit word) (ltb 48 (get_or word 0 0) || eqb (length word) 1) b.0 in
    let d = both (ltb 0 (length word) && leb (length word) 15) (list_all is_digit word) c.0 in
    let f = both (ltb 0 (length word)) (leb (length word) 15) d.0 in
    let some : 0 < length word = lt_from _ _ f.0 in
    let within : read_on 0 word ≤ most = le_from _ _ b.1 in (
      sym (decimal-digits_value own word d.1 some (not_zero_first _ _ c.1) (omega arith)) ∙ ap decimal t.1,
      omega (arith, t.1),
    )

pub decimal_first : (n : ℕ) → n < 2 ^ 64 → (48 ≤ get_or (decimal n) 0 0) × (get_or (decimal n) 0 0 ≤ 57)
decimal_first n h = digit_at (decimal n) 0 (digits_decimal own n h) (decimal_nonempty n h)
