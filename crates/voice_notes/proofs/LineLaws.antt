-- The first bad line, in the words of the law.
use Rattle.std.proofs.Common.{◌≡◌, ℕ, ◌+◌, ◌<◌, ◌≤◌, ◌⊎◌, inl, inr, Bool, true, false, cond, List, [], ◌∷◌, ◌++◌, length, refl, sym, ap, subst, ◌∙◌, arith, Some, None, ltb}
use Rattle.std.proofs.lemmas.Bool.{ltb-true, ltb-false}
use Rattle.script_lang.specs.Words.{words_of, are_quiet}
use Rattle.script_lang.specs.Forms.{is_file}
use Rattle.voice_notes.specs.declared.line.Says.{Says}
use Rattle.voice_notes.specs.declared.line.Says.TheVariants as says
use Rattle.voice_notes.specs.Index.{is_comment, words_say, line_says, line_said, or_later, bad_from}
use Rattle.voice_notes.specs.Laws.{IsOther, IsFirstOther, LinesAreFirst}
use Rattle.voice_notes.proofs.Lines.{bad_more}

-- ---- a line that says something else is neither quiet nor one FILE

abbrev IsOtherWords : List (List ℕ) → Type 0
IsOtherWords words = (are_quiet words ≡ false) × ((name : List ℕ) → is_file name ≡ true → ¬ (words ≡ name ∷ []))

other_words : (words : List (List ℕ)) → words_say words ≡ says.Other → IsOtherWords words
other_words [] h = cc
other_words (word ∷ []) h = by (is_comment word) (is_file word) refl h
  where
    by : (comment file : Bool) → is_file word ≡ file → cond comment says.Nothing (cond file (says.File word) says.Other) ≡ says.Other → (comment ≡ false) × ((name : List ℕ) → is_file name ≡ true → ¬ (word ∷ [] ≡ name ∷ []))
    by true file f h = cc
    by false true f h = cc
    by false false f h = (refl, λ name is e. let same : word ≡ name = cc in let no : false ≡ true = sym f ∙ ap is_file same ∙ is in cc)
other_words (word ∷ (second ∷ rest)) h = by (is_comment word) h
  where
    by : (comment : Bool) → cond comment says.Nothing says.Other ≡ says.Other → (comment ≡ false) × ((name : List ℕ) → is_file name ≡ true → ¬ (word ∷ (second ∷ rest) ≡ name ∷ []))
    by true h = cc
    by false h = (refl, λ name is e. cc)

words_other : (words : List (List ℕ)) → IsOtherWords words → words_say words ≡ says.Other
words_other [] h = let no = h.0 in cc
words_other (word ∷ []) h = by (is_comment word) (is_file word) refl h.0
  where
    by : (comment file : Bool) → is_file word ≡ file → comment ≡ false → cond comment says.Nothing (cond file (says.File word) says.Other) ≡ says.Other
    by true file f e = cc
    by false true f e = absurd (h.1 word f refl)
    by false false f e = refl
words_other (word ∷ (second ∷ rest)) h = ap (λ comment. cond comment says.Nothing says.Other) h.0

-- ---- the first

-- the first bad line of these, where the first has number n
record IsFirstFrom (n : ℕ) (lines : List (List ℕ)) (k : ℕ) : Type 0 where
  front : List (List ℕ)
  line : List ℕ
  rest : List (List ℕ)
  whole : lines ≡ front ++ line ∷ rest
  number : k ≡ n + length front
  bad : IsOther line ⊎ (65535 < k)
  first : (before : List (List ℕ)) (earlier : List ℕ) (after : List (List ℕ)) → front ≡ before ++ earlier ∷ after → ¬ IsOther earlier
  few : n ≤ 65536 → k ≤ 65536

-- a good line in front
abbrev IsGood : ℕ → List ℕ → Type 0
IsGood n line = (n ≤ 65535) × (¬ IsOther line)

no_lines : (before : List (List ℕ)) (earlier : List ℕ) (after : List (List ℕ)) → ¬ ([] ≡ before ++ earlier ∷ after)
no_lines [] earlier after = λ e. cc
no_lines (b ∷ before) earlier after = λ e. cc

behind_good : (n : ℕ) (good : List ℕ) (lines : List (List ℕ)) (k : ℕ) → IsGood n good → IsFirstFrom (n + 1) lines k → IsFirstFrom n (good ∷ lines) k
behind_good n good lines k g h = record {
  front = good ∷ h.front;
  line = h.line;
  rest = h.rest;
  whole = ap (λ (more : List (List ℕ)). good ∷ more) h.whole;
  number = let e = h.number in omega (arith, e);
  bad = h.bad;
  first = first;
  few = λ l. let low = g.0 in h.few (omega (arith, low));
}
  where
    first : (before : List (List ℕ)) (earlier : List ℕ) (after : List (List ℕ)) → good ∷ h.front ≡ before ++ earlier ∷ after → ¬ IsOther earlier
    first [] earlier after e = let same : good ≡ earlier = cc in subst (λ (l : List ℕ). ¬ IsOther l) same g.1
    first (b ∷ before) earlier after e = let same : h.front ≡ before ++ earlier ∷ after = cc in h.first before earlier after same

good_line : (n : ℕ) (line : List ℕ) (said : Says) → line_said n line ≡ said → ¬ (said ≡ says.Other) → IsGood n line
good_line n line said e good = by (ltb 65535 n) refl e
  where
    by : (late : Bool) → ltb 65535 n ≡ late → cond late says.Other (line_says line) ≡ said → IsGood n line
    by true t e = absurd (good (sym e))
    by false t e = (let most = ltb-false 65535 n t in omega (arith, most), λ other. good (sym e ∙ words_other (words_of line) other))

bad_line_is : (n : ℕ) (line : List ℕ) → line_said n line ≡ says.Other → IsOther line ⊎ (65535 < n)
bad_line_is n line e = by (ltb 65535 n) refl e
  where
    by : (late : Bool) → ltb 65535 n ≡ late → cond late says.Other (line_says line) ≡ says.Other → IsOther line ⊎ (65535 < n)
    by true t e = inr (ltb-true 65535 n t)
    by false t e = inl (other_words (words_of line) e)

first_from : (n : ℕ) (lines : List (List ℕ)) (k : ℕ) → bad_from n lines ≡ Some k → IsFirstFrom n lines k
first_from n [] k h = cc
first_from n (line ∷ lines) k h = by (line_said n line) refl h (first_from (n + 1) lines k)
  where
    by : (said : Says) → line_said n line ≡ said → or_later said n (bad_from (n + 1) lines) ≡ Some k → (bad_from (n + 1) lines ≡ Some k → IsFirstFrom (n + 1) lines k) → IsFirstFrom n (line ∷ lines) k
    by says.Other e h rest =
        let own : n ≡ k = cc in
        subst (IsFirstFrom n (line ∷ lines)) own
        (record { front = []; line = line; rest = lines; whole = refl; number = omega arith; bad = bad_line_is n line e; first = λ before earlier after f. absurd (no_lines before earlier after f); few = λ l. l })
    by says.Nothing e h rest = behind_good n line lines k (good_line n line says.Nothing e (λ bad. cc)) (rest h)
    by (says.File name) e h rest = behind_good n line lines k (good_line n line (says.File name) e (λ bad. cc)) (rest h)

first_of_line : (lines : List (List ℕ)) (k : ℕ) → bad_from 1 lines ≡ Some k → IsFirstOther lines k
first_of_line lines k h =
    let found = first_from 1 lines k h in
    let most : k ≤ 65536 = found.few (omega arith) in
    let number = found.number in
    record {
      front = found.front;
      line = found.line;
      rest = found.rest;
      whole = found.whole;
      number = number;
      bad = by found.bad most;
      first = found.first;
      few = omega (arith, most, number);
    }
  where
    by : {A : Type 0} → A ⊎ (65535 < k) → k ≤ 65536 → A ⊎ (k ≡ 65536)
    by (inl a) most = inl a
    by (inr l) most = inr (omega (arith, l, most))

-- lines of which none says something else, and few enough
none_other : (n : ℕ) (front : List (List ℕ)) → n + length front ≤ 65536 → ((before : List (List ℕ)) (earlier : List ℕ) (after : List (List ℕ)) → front ≡ before ++ earlier ∷ after → ¬ IsOther earlier) → bad_from n front ≡ None
none_other n [] few good = refl
none_other n (line ∷ front) few good = by (line_said n line) refl (none_other (n + 1) front (omega (arith, few)) (λ before earlier after e. good (line ∷ before) earlier after (ap (λ (more : List (List ℕ)). line ∷ more) e)))
  where
    not_other : ¬ (line_said n line ≡ says.Other)
    not_other = λ e. either (bad_line_is n line e)
      where
        either : IsOther line ⊎ (65535 < n) → ⊥
        either (inl other) = good [] line front refl other
        either (inr l) = absurd (omega (arith, l, few))

    by : (said : Says) → line_said n line ≡ said → bad_from (n + 1) front ≡ None → or_later said n (bad_from (n + 1) front) ≡ None
    by says.Other e rest = absurd (not_other e)
    by says.Nothing e rest = rest
    by (says.File name) e rest = rest

said_other : (k : ℕ) (line : List ℕ) → IsOther line ⊎ (k ≡ 65536) → line_said k line ≡ says.Other
said_other k line (inl other) = by (ltb 65535 k)
  where
    by : (late : Bool) → cond late says.Other (line_says line) ≡ says.Other
    by true = refl
    by false = words_other (words_of line) other
said_other k line (inr e) = ap (λ n. line_said n line) e

line_of_first : (lines : List (List ℕ)) (k : ℕ) → IsFirstOther lines k → bad_from 1 lines ≡ Some k
line_of_first lines k h =
    let number = h.number in
    let few = h.few in
    ap (bad_from 1) h.whole
    ∙ bad_more 1 h.front (h.line ∷ h.rest) (none_other 1 h.front (omega (arith, few)) h.first)
    ∙ ap (λ n. bad_from n (h.line ∷ h.rest)) (sym number)
    ∙ ap (λ said. or_later said k (bad_from (k + 1) h.rest)) (said_other k h.line h.bad)

pub lines_are_first : LinesAreFirst
lines_are_first = record { found = λ lines k. (first_of_line lines k, line_of_first lines k) }
