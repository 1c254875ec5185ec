-- Numbers of 64 bits among the words of the command line.
use Rattle.std.proofs.Common.{◌≡◌, ℕ, ◌+◌, ◌^◌, ◌<◌, ◌≤◌, ◌⊎◌, inl, inr, Bool, true, false, ◌==◌, List, [], ◌∷◌, ◌++◌, length, get_or, take, sym, ap, subst, ◌∙◌, arith, rules, lit<}
use Rattle.std.specs.List.{list_all}
use Rattle.std.specs.Fmt.{decimal}
use Rattle.std.proofs.Math.Nat.{pow-le-pow_right}
use Rattle.std.proofs.lemmas.Str.Parse.{IsNumeralModel, numerals_by_fold}
use Rattle.std.proofs.lemmas.Fmt.{digits_decimal, digits_value-decimal, decimal-digits_value, length-decimal-le, decimal_nonempty, decimal_digit, first_decimal}
use Rattle.std.proofs.lemmas.Bool.{cases_lt, false≢true}
use Rattle.std.proofs.lemmas.Bool.Decides.{nat_tests}
use Rattle.std.proofs.lemmas.List.{take_more}
use Rattle.script_lang.specs.Numbers.{is_digit, read_on}
use Rattle.voice_main.specs.MadeRuns.{byte_total}

own : IsNumeralModel (λ ds. list_all is_digit ds ≡ true) (read_on 0)
own = numerals_by_fold _ (search rules) read_on (search rules)

pub within : (i : ℕ) → i < 20 → 10 ^ i ≤ 10 ^ 19
within i h = pow-le-pow_right {n = 10} (lit< tt) (let g : i ≤ 19 = omega arith in g)

-- the digits of a number of 64 bits
pub record IsWide (word : List ℕ) (n : ℕ) : Type 0 where
  pub some : 0 < length word
  pub few : length word ≤ 20
  pub digits : list_all is_digit word ≡ true
  pub canonical : get_or word 0 0 ≡ 48 → length word ≡ 1
  pub value : read_on 0 word ≡ n

-- a number has them
canonical_decimal : (n : ℕ) → n < 2 ^ 64 → get_or (decimal n) 0 0 ≡ 48 → length (decimal n) ≡ 1
canonical_decimal n h zero_first =
    elim (cases_lt n 10) [
      | inl one ↦ ap length (decimal_digit n one)
      | inr more ↦ (let above = first_decimal n (omega arith) h in absurd (omega (arith, above, zero_first)))
    ]

wide_decimal : (n : ℕ) → n < 2 ^ 64 → IsWide (decimal n) n
wide_decimal n h = record {
  some = decimal_nonempty n h;
  few = length-decimal-le 20 n (lit< tt) (omega arith) h;
  digits = digits_decimal own n h;
  canonical = canonical_decimal n h;
  value = digits_value-decimal own n h;
}

pub wide_of : (word : List ℕ) (n : ℕ) → n < 2 ^ 64 → word ≡ decimal n → IsWide word n
wide_of word n h is = subst (λ w. IsWide w n) (sym is) (wide_decimal n h)

-- words that are no such number
none_long : (m : ℕ) → (m == 0) ≡ true → 0 < m → ⊥
none_long m e h = grind (arith, nat_tests)

pub not_long : (word : List ℕ) (empty : Bool) → empty ≡ (length word == 0) → (empty ≡ true) ⊎ ((empty ≡ false) × (20 < length word)) → (n : ℕ) → n < 2 ^ 64 → word ≡ decimal n → ⊥
not_long word empty is (inl none) n h same = none_long (length word) (sym is ∙ none) (wide_of word n h same).some
not_long word empty is (inr long) n h same = let few = (wide_of word n h same).few in absurd (omega (arith, long, few))

pub not_digits : (word : List ℕ) (digits : Bool) → digits ≡ list_all is_digit word → digits ≡ false → (n : ℕ) → n < 2 ^ 64 → word ≡ decimal n → ⊥
not_digits word digits is none n h same = false≢true (sym none ∙ is ∙ (wide_of word n h same).digits)

pub not_canonical : (word : List ℕ) → get_or word 0 0 ≡ 48 → 1 < length word → (n : ℕ) → n < 2 ^ 64 → word ≡ decimal n → ⊥
not_canonical word zero_first long n h same = let one = (wide_of word n h same).canonical zero_first in absurd (omega (arith, long, one))

pub not_small : (word : List ℕ) (value : ℕ) → value ≡ read_on 0 word → 2 ^ 64 ≤ value → (n : ℕ) → n < 2 ^ 64 → word ≡ decimal n → ⊥
not_small word value is large n h same = let one = (wide_of word n h same).value in absurd (omega (arith, is, large, h, one))

pub some_long : (word : List ℕ) (empty : Bool) → empty ≡ (length word == 0) → empty ≡ false → 0 < length word
some_long word empty is none = some (length word) (sym is ∙ none)
  where
    some : (m : ℕ) → (m == 0) ≡ false → 0 < m
    some m e = grind (arith, nat_tests)

-- and what has them is that number
pub decimal_of : (word : List ℕ) → 0 < length word → list_all is_digit word ≡ true → (get_or word 0 0 ≡ 48 → length word ≡ 1) → read_on 0 word < 2 ^ 64 → word ≡ decimal (read_on 0 word)
decimal_of word some digits canonical fits = sym (decimal-digits_value own word digits some canonical fits)

-- ---- the sum of bytes

total_push : (bytes : List ℕ) (b : ℕ) → byte_total (bytes ++ b ∷ []) ≡ byte_total bytes + b
total_push [] b = omega arith
total_push (x ∷ bytes) b = let rest = total_push bytes b in omega (arith, rest)

pub total_more : (bytes : List ℕ) (i : ℕ) → i < length bytes → byte_total (take (i + 1) bytes) ≡ byte_total (take i bytes) + get_or bytes i 0
total_more bytes i h = ap byte_total (take_more bytes i 0 h) ∙ total_push (take i bytes) (get_or bytes i 0)
