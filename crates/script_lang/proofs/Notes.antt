-- Notes, written as pairs of hex digits.
use Rattle.std.proofs.Common.{◌≡◌, ℕ, suc, zero, ◌+◌, ◌-◌, ◌*◌, ◌/◌, ◌%◌, ◌<◌, ◌≤◌, ◌⊎◌, inl, inr, Bool, true, false, cond, ◌&&◌, List, [], ◌∷◌, length, get_or, sym, refl, ap, ◌∙◌, arith, Option, Some, None, leb, ltb, eqb, subst, lit<, lit≤}
use Rattle.std.specs.Prelude.{codes}
use Rattle.std.specs.Str.{bytes_eq}
use Rattle.std.proofs.lemmas.Bool.Decides.{nat_tests}
use Rattle.std.proofs.lemmas.Slice.Eq.{bytes_eq-Decides}
use Rattle.voice_model.specs.Text.{note_text, hex, hex_digit}
use Rattle.script_lang.specs.Forms.{hex_value, hex_of, one_more, note_of}
use Rattle.script_lang.specs.Arguments.{Rest, note_at}
use Rattle.script_lang.specs.Grammar.{IsNote}
use Rattle.script_lang.proofs.Spelled.{word_found, word_again, some_is}

-- a digit and its value
hex_value_digit : (d : ℕ) → d < 16 → hex_value (hex_digit d) ≡ Some d
hex_value_digit d h = grind (arith, nat_tests)

hex_cases : (a b : Bool) (x y d : ℕ) → cond a (Some x) (cond b (Some y) None) ≡ Some d → ((a ≡ true) × (x ≡ d)) ⊎ ((b ≡ true) × (y ≡ d))
hex_cases true b x y d e = inl (refl, some_is x d e)
hex_cases false true x y d e = inr (refl, some_is y d e)
hex_cases false false x y d e = cc

between : (a c b : ℕ) → (leb a c && leb c b) ≡ true → (a ≤ c) × (c ≤ b)
between a c b e = (grind (arith, nat_tests), grind (arith, nat_tests))

digit_low : (d : ℕ) → d < 10 → hex_digit d ≡ 48 + d
digit_low d h = grind (arith, nat_tests)

digit_high : (d : ℕ) → 10 ≤ d → hex_digit d ≡ 87 + d
digit_high d h = grind (arith, nat_tests)

hex_value_found : (c d : ℕ) → hex_value c ≡ Some d → (d < 16) × (c ≡ hex_digit d)
hex_value_found c d e =
    elim (hex_cases (leb 48 c && leb c 57) (leb 97 c && leb c 102) (c - 48) (c - 87) d e) [
      | inl w ↦ let r = between 48 c 57 w.0 in let is = w.1 in (omega arith, let t : c ≡ 48 + d = omega arith in t ∙ sym (digit_low d (omega arith)))
      | inr w ↦ let r = between 97 c 102 w.0 in let is = w.1 in (omega arith, let t : c ≡ 87 + d = omega arith in t ∙ sym (digit_high d (omega arith)))
    ]

more_ok : (x y : Option ℕ) (o : Option (List ℕ)) (bytes : List ℕ) → one_more x y o ≡ Some bytes → (h : ℕ) × (l : ℕ) × (rest : List ℕ) × (x ≡ Some h) × (y ≡ Some l) × (o ≡ Some rest) × ((16 * h + l) ∷ rest ≡ bytes)
more_ok None y o bytes e = cc
more_ok (Some h) None o bytes e = cc
more_ok (Some h) (Some l) None bytes e = cc
more_ok (Some h) (Some l) (Some rest) bytes e = (h, l, rest, refl, refl, refl, some_is ((16 * h + l) ∷ rest) bytes e)

byte_cons : (b : ℕ) (bs : List ℕ) → b < 256 → ((i : ℕ) → get_or bs i 0 < 256) → (i : ℕ) → get_or (b ∷ bs) i 0 < 256
byte_cons b bs h hs zero = h
byte_cons b bs h hs (suc i) = hs i

hex_pair : (h l : ℕ) → l < 16 → ((16 * h + l) / 16 ≡ h) × ((16 * h + l) % 16 ≡ l)
hex_pair h l s = (omega arith, omega arith)

pub hex_found : (word bytes : List ℕ) → hex_of word ≡ Some bytes → (word ≡ hex bytes) × (2 * length bytes ≡ length word) × ((i : ℕ) → get_or bytes i 0 < 256)
hex_found [] bytes e =
    let s = some_is [] bytes e in
    let Small : List ℕ → Type 0 = λ l. (i : ℕ) → get_or l i 0 < 256 in
    let none : Small [] = λ i. lit< tt in (ap hex s, ap (λ b. 2 * length b) (sym s), subst Small s none)
hex_found (a ∷ []) bytes e = cc
hex_found (a ∷ (b ∷ ds)) bytes e =
    let m = more_ok (hex_value a) (hex_value b) (hex_of ds) bytes e in
    let p = hex_value_found a m.0 m.3 in
    let q = hex_value_found b m.1 m.4 in
    let r = hex_found ds m.2 m.5 in
    let k = hex_pair m.0 m.1 q.0 in
    let first : a ≡ hex_digit ((16 * m.0 + m.1) / 16) = p.1 ∙ ap hex_digit (sym k.0) in
    let second : b ≡ hex_digit ((16 * m.0 + m.1) % 16) = q.1 ∙ ap hex_digit (sym k.1) in
    let word : a ∷ (b ∷ ds) ≡ hex ((16 * m.0 + m.1) ∷ m.2) = ap (λ x. x ∷ (b ∷ ds)) first ∙ ap (λ x. hex_digit ((16 * m.0 + m.1) / 16) ∷ (x ∷ ds)) second
    ∙ ap (λ x. hex_digit ((16 * m.0 + m.1) / 16) ∷ (hex_digit ((16 * m.0 + m.1) % 16) ∷ x)) r.0 in
    let small : 16 * m.0 + m.1 < 256 = omega (arith, p.0, q.0) in
    let Small : List ℕ → Type 0 = λ l. (i : ℕ) → get_or l i 0 < 256 in (
      word ∙ ap hex m.6,
      omega (arith, r.1, ap length m.6),
      subst Small m.6 (byte_cons (16 * m.0 + m.1) m.2 small r.2),
    )

pub hex_again : (bytes : List ℕ) → ((i : ℕ) → get_or bytes i 0 < 256) → hex_of (hex bytes) ≡ Some bytes
hex_again [] h = refl
hex_again (b ∷ bs) h =
    let low : b % 16 < 16 = omega arith in
    let high : b / 16 < 16 = omega (arith, h 0) in
    let whole : 16 * (b / 16) + b % 16 ≡ b = omega arith in
    ap (λ x. one_more x (hex_value (hex_digit (b % 16))) (hex_of (hex bs))) (hex_value_digit (b / 16) high)
    ∙ ap (λ x. one_more (Some (b / 16)) x (hex_of (hex bs))) (hex_value_digit (b % 16) low)
    ∙ ap (one_more (Some (b / 16)) (Some (b % 16))) (hex_again bs (λ i. h (suc i)))
    ∙ ap (λ x. Some (x ∷ bs)) whole

hex_length : (bytes : List ℕ) → length (hex bytes) ≡ 2 * length bytes
hex_length [] = refl
hex_length (b ∷ bs) = omega (arith, hex_length bs)

lt_true : (m n : ℕ) → m < n → ltb m n ≡ true
lt_true m n h = grind (arith, nat_tests)

le_true : (m n : ℕ) → m ≤ n → leb m n ≡ true
le_true m n h = grind (arith, nat_tests)

both_true : (a b : Bool) → a ≡ true → b ≡ true → (a && b) ≡ true
both_true true b p q = q
both_true false b p q = cc

last_no : (a : Bool) → (a && false) ≡ false
last_no true = refl
last_no false = refl

not_dash : (word : List ℕ) → 2 ≤ length word → bytes_eq word (codes "-") ≡ false
not_dash [] h = absurd (omega arith)
not_dash (a ∷ []) h = absurd (omega arith)
not_dash (a ∷ (b ∷ ds)) h = last_no (eqb a 45)

note_of_again : (note : List ℕ) → IsNote note → note_of (note_text note) ≡ Some note
unfolding note_of
note_of_again [] h = refl
note_of_again (b ∷ bs) h =
    let word = hex (b ∷ bs) in
    let long : length (hex (b ∷ bs)) ≡ 2 * length (b ∷ bs) = hex_length (b ∷ bs) in
    let some : length (hex (b ∷ bs)) ≤ 256 = omega (arith, h.0) in
    ap (λ t. cond t (Some []) (cond (ltb 0 (length word) && leb (length word) 256) (hex_of word) None)) (not_dash (hex (b ∷ bs)) (omega arith))
    ∙ ap (λ t. cond t (hex_of word) None) (both_true (ltb 0 (length word)) (leb (length word) 256) (lt_true 0 (length word) (omega arith)) (le_true (length word) 256 some))
    ∙ hex_again (b ∷ bs) h.1

pub note_again : (note : List ℕ) (rest : Rest) → IsNote note → note_at (note_text note ∷ rest) ≡ Some (note, rest)
unfolding note_at
note_again note rest h = word_again note_of (note_text note) rest note (note_of_again note h)

note_cases : (a b : Bool) (o : Option (List ℕ)) (note : List ℕ) → cond a (Some []) (cond b o None) ≡ Some note → ((a ≡ true) × ([] ≡ note)) ⊎ ((b ≡ true) × (o ≡ Some note))
note_cases true b o note e = inl (refl, some_is [] note e)
note_cases false true o note e = inr (refl, e)
note_cases false false o note e = cc

within : (n : ℕ) → (ltb 0 n && leb n 256) ≡ true → (0 < n) × (n ≤ 256)
within n e = (grind (arith, nat_tests), grind (arith, nat_tests))

none_is_note : IsNote []
none_is_note = (lit≤ tt, λ i. lit< tt)

of_hex : (w note : List ℕ) → 0 < length note → w ≡ hex note → w ≡ note_text note
of_hex w [] h e = absurd (omega arith)
of_hex w (b ∷ bs) h e = e

note_of_found : (w note : List ℕ) → note_of w ≡ Some note → (w ≡ note_text note) × IsNote note
unfolding note_of
note_of_found w note e =
    elim (note_cases (bytes_eq w (codes "-")) (ltb 0 (length w) && leb (length w) 256) (hex_of w) note e) [
      | inl c ↦ ((bytes_eq-Decides w (codes "-")).0 c.0 ∙ ap note_text c.1, subst IsNote c.1 none_is_note)
      | inr c ↦
          let s = within (length w) c.0 in
          let p = hex_found w note c.1 in (of_hex w note (omega (arith, p.1, s)) p.0, (omega (arith, p.1, s), p.2))
    ]

pub note_found : (words rest : Rest) (note : List ℕ) → note_at words ≡ Some (note, rest) → (words ≡ note_text note ∷ rest) × IsNote note
unfolding note_at
note_found words rest note e =
    let w = word_found note_of words rest note e in
    let p = note_of_found w.0 note w.2 in
    (w.1 ∙ ap (λ t. t ∷ rest) p.0, p.1)
