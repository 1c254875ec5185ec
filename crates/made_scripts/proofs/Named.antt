-- The words that generated lines have.
use Rattle.std.proofs.Common.{◌≡◌, ℕ, suc, ◌^◌, ◌<◌, true, ◌&&◌, ◌||◌, leb, ltb, eqb, List, [], ◌∷◌, length, get_or, refl, ap, arith}
use Rattle.std.specs.Fmt.{decimal}
use Rattle.std.specs.List.{list_all}
use Rattle.std.proofs.lemmas.Bool.Decides.{nat_tests}
use Rattle.script_gen.specs.Lines.{variable, file_name, key_name}
use Rattle.script_lang.specs.Numbers.{is_digit, is_number}
use Rattle.script_lang.specs.Forms.{is_letter, is_word_byte, is_name_byte, is_short, is_var, is_key, is_file}
use Rattle.script_lang.specs.Words.{some_bytes}
use Rattle.script_lang.proofs.Digits.{number-spelled}
use Rattle.made_scripts.proofs.Texts.{both, and_true, more_pass, is_printed, IsWord}

-- a number of a generated line
abbrev pub Few : ℕ → Type 0
Few n = n < 2 ^ 20

-- its digits
pub record AreDigits (w : List ℕ) : Type 0 where
  pub some : some_bytes w ≡ true
  pub short : leb (length w) 15 ≡ true
  pub digits : list_all is_digit w ≡ true

some_of : (w : List ℕ) → ltb 0 (length w) ≡ true → some_bytes w ≡ true
some_of [] h = h
some_of (b ∷ w) h = refl

digits_of : (w : List ℕ) → is_number w ≡ true → AreDigits w
digits_of w h =
    let a = both (ltb 0 (length w) && leb (length w) 15 && list_all is_digit w) (ltb 48 (get_or w 0 0) || eqb (length w) 1) h in
    let b = both (ltb 0 (length w) && leb (length w) 15) (list_all is_digit w) a.0 in
    let c = both (ltb 0 (length w)) (leb (length w) 15) b.0 in
    record { some = some_of w c.0; short = c.1; digits = b.1 }

pub few_digits : (n : ℕ) → Few n → AreDigits (decimal n)
few_digits n h = digits_of (decimal n) (number-spelled n (omega arith))

digit_printed : (b : ℕ) → is_digit b ≡ true → is_printed b ≡ true
digit_printed b h = grind (arith, nat_tests)

digit_in_word : (b : ℕ) → is_digit b ≡ true → is_word_byte b ≡ true
digit_in_word b h = grind (arith, nat_tests)

digit_in_name : (b : ℕ) → is_digit b ≡ true → is_name_byte b ≡ true
digit_in_name b h = ap (λ t. t || eqb b 46 || eqb b 45) (digit_in_word b h)

zero_lt : (n : ℕ) → ltb 0 (suc n) ≡ true
zero_lt n = grind (arith, nat_tests)

one_more : (n : ℕ) → leb n 15 ≡ true → leb (suc n) 64 ≡ true
one_more n h = grind (arith, nat_tests)

short_more : (b : ℕ) (w : List ℕ) → AreDigits w → is_short (b ∷ w) ≡ true
short_more b w d = and_true (ltb 0 (suc (length w))) (leb (suc (length w)) 64) (zero_lt (length w)) (one_more (length w) d.short)

-- a number and a name are words
pub number_word : (n : ℕ) → Few n → IsWord (decimal n)
number_word n h =
    let d = few_digits n h in
    record { some = d.some; printed = more_pass is_digit is_printed digit_printed (decimal n) d.digits }

name_word : (b : ℕ) (w : List ℕ) → is_printed b ≡ true → AreDigits w → IsWord (b ∷ w)
name_word b w h d = record { some = refl; printed = and_true (is_printed b) (list_all is_printed w) h (more_pass is_digit is_printed digit_printed w d.digits) }

pub variable_word : (n : ℕ) → Few n → IsWord (variable n)
variable_word n h = name_word 118 (decimal n) refl (few_digits n h)

pub file_word : (n : ℕ) → Few n → IsWord (file_name n)
file_word n h = name_word 103 (decimal n) refl (few_digits n h)

pub key_word : (n : ℕ) → Few n → IsWord (key_name n)
key_word n h = name_word 107 (decimal n) refl (few_digits n h)

-- names have the forms that the language wants
var_form : (b : ℕ) (w : List ℕ) → is_letter b ≡ true → AreDigits w → is_var (b ∷ w) ≡ true
var_form b w h d =
    and_true (is_short (b ∷ w) && is_letter b) (list_all is_word_byte (b ∷ w)) (and_true (is_short (b ∷ w)) (is_letter b) (short_more b w d) h)
    (and_true (is_word_byte b) (list_all is_word_byte w) (ap (λ t. t || (leb 48 b && leb b 57) || eqb b 95) h) (more_pass is_digit is_word_byte digit_in_word w d.digits))

pub variable_form : (n : ℕ) → Few n → is_var (variable n) ≡ true
variable_form n h = var_form 118 (decimal n) refl (few_digits n h)

pub file_form : (n : ℕ) → Few n → is_file (file_name n) ≡ true
file_form n h =
    let d = few_digits n h in
    and_true (is_short (file_name n) && is_word_byte 103) (list_all is_name_byte (file_name n)) (and_true (is_short (file_name n)) (is_word_byte 103) (short_more 103 (decimal n) d) refl)
    (more_pass is_digit is_name_byte digit_in_name (decimal n) d.digits)

pub key_form : (n : ℕ) → Few n → is_key (key_name n) ≡ true
key_form n h =
    let d = few_digits n h in
    and_true (is_short (key_name n)) (list_all is_name_byte (key_name n)) (short_more 107 (decimal n) d) (more_pass is_digit is_name_byte digit_in_name (decimal n) d.digits)
