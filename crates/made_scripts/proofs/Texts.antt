-- The words and the lines of a text.
use Rattle.std.proofs.Common.{◌≡◌, ℕ, zero, suc, ◌-◌, Bool, true, false, cond, not, ◌&&◌, eqb, leb, List, [], ◌∷◌, ◌++◌, length, get_or, take, map, refl, ap, ◌∙◌, arith, append-nil}
use Rattle.std.specs.List.{list_all, filter}
use Rattle.std.proofs.lemmas.Bool.Decides.{nat_tests}
use Rattle.std.proofs.lemmas.List.{append_assoc}
use Rattle.std.proofs.lemmas.List.Folds.{list_all-append}
use Rattle.voice_model.specs.Text.{spaced}
use Rattle.script_lang.specs.Grammar.{Every}
use Rattle.script_lang.specs.Words.{parts, push_front, is_blank, is_end, is_plain, is_plain_byte, some_bytes, words_of, lines_of, without_return}

-- tests that pass
pub both : (a b : Bool) → (a && b) ≡ true → (a ≡ true) × (b ≡ true)
both true b e = (refl, e)
both false b e = cc

pub and_true : (a b : Bool) → a ≡ true → b ≡ true → (a && b) ≡ true
and_true true b e f = f
and_true false b e f = e

not_true : (b : Bool) → not b ≡ true → b ≡ false
not_true true e = cc
not_true false e = refl

pub more_pass : (p q : ℕ → Bool) → ((b : ℕ) → p b ≡ true → q b ≡ true) → (w : List ℕ) → list_all p w ≡ true → list_all q w ≡ true
more_pass p q f [] h = refl
more_pass p q f (b ∷ w) h =
    let t = both (p b) (list_all p w) h in
    and_true (q b) (list_all q w) (f b t.0) (more_pass p q f w t.1)

-- a printed byte that is no blank
abbrev pub is_printed : ℕ → Bool
is_printed b = leb 33 b && leb b 126

no_blank : (b : ℕ) → is_printed b ≡ true → not (is_blank b) ≡ true
no_blank b h = grind (arith, nat_tests)

printed_plain : (b : ℕ) → is_printed b ≡ true → is_plain_byte b ≡ true
printed_plain b h = grind (arith, nat_tests)

plain_no_end : (b : ℕ) → is_plain_byte b ≡ true → not (is_end b) ≡ true
plain_no_end b h = grind (arith, nat_tests)

plain_no_return : (b : ℕ) → is_plain_byte b ≡ true → eqb b 13 ≡ false
plain_no_return b h = grind (arith, nat_tests)

-- a word: printed bytes, at least one
pub record IsWord (w : List ℕ) : Type 0 where
  pub some : some_bytes w ≡ true
  pub printed : list_all is_printed w ≡ true

-- the parts of bytes
parts_cut : (ends : ℕ → Bool) (w rest : List ℕ) (e : ℕ) → list_all (λ b. not (ends b)) w ≡ true → ends e ≡ true → parts ends (w ++ e ∷ rest) ≡ w ∷ parts ends rest
parts_cut ends [] rest e free end = ap (λ t. cond t ([] ∷ parts ends rest) (push_front e (parts ends rest))) end
parts_cut ends (b ∷ w) rest e free end =
    let t = both (not (ends b)) (list_all (λ c. not (ends c)) w) free in
    ap (λ u. cond u ([] ∷ parts ends (w ++ e ∷ rest)) (push_front b (parts ends (w ++ e ∷ rest)))) (not_true (ends b) t.0)
    ∙ ap (push_front b) (parts_cut ends w rest e t.1 end)

parts_last : (ends : ℕ → Bool) (b : ℕ) (w : List ℕ) → list_all (λ c. not (ends c)) (b ∷ w) ≡ true → parts ends (b ∷ w) ≡ (b ∷ w) ∷ []
parts_last ends b [] free =
    ap (λ u. cond u ([] ∷ []) ((b ∷ []) ∷ [])) (not_true (ends b) (both (not (ends b)) true free).0)
parts_last ends b (c ∷ w) free =
    let t = both (not (ends b)) (list_all (λ d. not (ends d)) (c ∷ w)) free in
    ap (λ u. cond u ([] ∷ parts ends (c ∷ w)) (push_front b (parts ends (c ∷ w)))) (not_true (ends b) t.0)
    ∙ ap (push_front b) (parts_last ends c w t.1)

-- words with a space between two are those words
parts_words : (w : List ℕ) (ws : List (List ℕ)) → IsWord w → Every IsWord ws → parts is_blank (w ++ spaced ws) ≡ w ∷ ws
parts_words [] ws h hs = absurd (let n : false ≡ true = h.some in cc)
parts_words (b ∷ w) [] h hs =
    ap (parts is_blank) (append-nil (b ∷ w)) ∙ parts_last is_blank b w (more_pass is_printed (λ c. not (is_blank c)) no_blank (b ∷ w) h.printed)
parts_words (b ∷ w) (v ∷ vs) h hs =
    parts_cut is_blank (b ∷ w) (v ++ spaced vs) 32 (more_pass is_printed (λ c. not (is_blank c)) no_blank (b ∷ w) h.printed) refl
    ∙ ap (λ ps. (b ∷ w) ∷ ps) (parts_words v vs hs.0 hs.1)

filter_words : (ws : List (List ℕ)) → Every IsWord ws → filter some_bytes ws ≡ ws
filter_words [] h = refl
filter_words (w ∷ ws) h =
    let first : some_bytes w ≡ true = h.0.some in
    ap (λ t. cond t (w ∷ filter some_bytes ws) (filter some_bytes ws)) first ∙ ap (λ vs. w ∷ vs) (filter_words ws h.1)

pub words_are : (w : List ℕ) (ws : List (List ℕ)) → IsWord w → Every IsWord ws → words_of (w ++ spaced ws) ≡ w ∷ ws
words_are w ws h hs = ap (filter some_bytes) (parts_words w ws h hs) ∙ filter_words (w ∷ ws) (h, hs)

-- they are plain
pub words_plain : (w : List ℕ) (ws : List (List ℕ)) → IsWord w → Every IsWord ws → is_plain (w ++ spaced ws) ≡ true
words_plain w [] h hs = ap is_plain (append-nil w) ∙ more_pass is_printed is_plain_byte printed_plain w h.printed
words_plain w (v ∷ vs) h hs =
    list_all-append is_plain_byte w (32 ∷ (v ++ spaced vs))
    ∙ and_true (list_all is_plain_byte w) (is_plain (v ++ spaced vs)) (more_pass is_printed is_plain_byte printed_plain w h.printed) (words_plain v vs hs.0 hs.1)

no_return : (t : List ℕ) (i : ℕ) → is_plain t ≡ true → eqb (get_or t i 0) 13 ≡ false
no_return [] i h = refl
no_return (b ∷ t) zero h = plain_no_return b (both (is_plain_byte b) (is_plain t) h).0
no_return (b ∷ t) (suc i) h = no_return t i (both (is_plain_byte b) (is_plain t) h).1

without_none : (t : List ℕ) → is_plain t ≡ true → without_return t ≡ t
without_none t h = ap (λ b. cond b (take (length t - 1) t) t) (no_return t (length t - 1) h)

-- a plain text and a line feed is a line
pub line_first : (t rest : List ℕ) → is_plain t ≡ true → lines_of ((t ++ 10 ∷ []) ++ rest) ≡ t ∷ lines_of rest
line_first t rest h =
    ap lines_of (append_assoc t (10 ∷ []) rest)
    ∙ ap (map without_return) (parts_cut is_end t rest 10 (more_pass is_plain_byte (λ c. not (is_end c)) plain_no_end t h) refl)
    ∙ ap (λ u. u ∷ lines_of rest) (without_none t h)
