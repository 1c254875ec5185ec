-- The lines of an index, and the words of a line.
use Rattle.std.proofs.Common.{◌≡◌, ℕ, zero, suc, ◌+◌, ◌-◌, ◌<◌, ◌≤◌, ◌⊎◌, inl, inr, ◌==◌, Bool, true, false, cond, List, [], ◌∷◌, ◌++◌, map, length, get_or, take, drop, drop-cons, length-append, ltb, refl, sym, ap, subst, ◌∙◌, arith, Some, None}
use Rattle.std.specs.Prelude.{not, filter, slice_index}
use Rattle.std.proofs.lemmas.Bool.Decides.{nat_tests}
use Rattle.std.proofs.lemmas.Bool.{ltb-false}
use Rattle.std.proofs.lemmas.List.{take-append-drop}
use Rattle.std.proofs.Common.{append-nil}
use Rattle.std.specs.List.{slice_split, onto_first}
use denote.Ref.{Bor}
use Rattle.script_lang.specs.Words.{parts, push_front, is_end, is_blank, some_bytes, words_of, without_return, lines_of}
use Rattle.voice_notes.specs.declared.line.Says.{Says}
use Rattle.voice_notes.specs.declared.line.Says.TheVariants as says
use Rattle.voice_notes.specs.Index.{line_says, line_said, with_said, names_on, names_in, or_later, bad_from, bad_line, without_end}

-- ---- parts that end with bytes, and parts between them

same_front : (b : ℕ) (ls : List (List ℕ)) → onto_first b ls ≡ push_front b ls
same_front b [] = refl
same_front b (l ∷ ls) = refl

-- between the bytes there is perhaps one empty part more, at the end
abbrev IsSplit : List (List ℕ) → List (List ℕ) → Type 0
IsSplit split all = (split ≡ all) ⊎ (split ≡ all ++ [] ∷ [])

abbrev one_empty : List (List ℕ)
one_empty = [] ∷ []

fronted : (b : ℕ) (split all : List (List ℕ)) → IsSplit split all → IsSplit (onto_first b split) (push_front b all)
fronted b split all (inl e) = inl (ap (onto_first b) e ∙ same_front b all)
fronted b split [] (inr e) = inl (ap (onto_first b) e)
fronted b split (l ∷ ls) (inr e) = inr (ap (onto_first b) e)

ended : (split all : List (List ℕ)) → IsSplit split all → IsSplit ([] ∷ split) ([] ∷ all)
ended split all (inl e) = inl (ap (λ (ls : List (List ℕ)). [] ∷ ls) e)
ended split all (inr e) = inr (ap (λ (ls : List (List ℕ)). [] ∷ ls) e)

split_is : (p : ℕ → Bool) (bytes : List ℕ) → IsSplit (slice_split p bytes) (parts p bytes)
split_is p [] = inr refl
split_is p (b ∷ bytes) = by (p b) (split_is p bytes)
  where
    by : (q : Bool) → IsSplit (slice_split p bytes) (parts p bytes) → IsSplit (cond q ([] ∷ slice_split p bytes) (onto_first b (slice_split p bytes))) (cond q ([] ∷ parts p bytes) (push_front b (parts p bytes)))
    by true h = ended (slice_split p bytes) (parts p bytes) h
    by false h = fronted b (slice_split p bytes) (parts p bytes) h

some_append : (ls : List (List ℕ)) → filter some_bytes (ls ++ one_empty) ≡ filter some_bytes ls
some_append [] = refl
some_append (l ∷ ls) = ap (λ rest. cond (some_bytes l) (l ∷ rest) rest) (some_append ls)

some_of : (split all : List (List ℕ)) → IsSplit split all → filter some_bytes split ≡ filter some_bytes all
some_of split all (inl e) = ap (filter some_bytes) e
some_of split all (inr e) = ap (filter some_bytes) e ∙ some_append all

same_filter : (p q : List ℕ → Bool) (xs : List (List ℕ)) → ((x : List ℕ) → p x ≡ q x) → filter p xs ≡ filter q xs
same_filter p q [] same = refl
same_filter p q (x ∷ xs) same = ap (λ b. cond b (x ∷ filter p xs) (filter p xs)) (same x) ∙ ap (λ (rest : List (List ℕ)). cond (q x) (x ∷ rest) rest) (same_filter p q xs same)

-- whether a part is not empty
abbrev pub is_some_part : List ℕ → Bool
is_some_part part = not (length part == 0)

some_part : (part : List ℕ) → is_some_part part ≡ some_bytes part
some_part [] = refl
some_part (b ∷ part) = grind (arith, nat_tests)

-- the words of a line are the parts between blanks that are not empty
pub words_are : (line : List ℕ) → filter is_some_part (slice_split is_blank line) ≡ words_of line
words_are line = same_filter is_some_part some_bytes (slice_split is_blank line) some_part ∙ some_of (slice_split is_blank line) (parts is_blank line) (split_is is_blank line)

pub one_word : (all words : List (List ℕ)) (word : List ℕ) → all ≡ words → word ∷ [] ≡ all → words ≡ word ∷ []
one_word all words word e h = sym e ∙ sym h

pub more_words : (all words : List (List ℕ)) (word : List ℕ) → all ≡ words → word ≡ get_or all 0 word → 1 < length all → (second : List ℕ) × (rest : List (List ℕ)) × (words ≡ word ∷ (second ∷ rest))
more_words [] words word e h some = absurd (omega arith)
more_words (first ∷ []) words word e h some = absurd (omega arith)
more_words (first ∷ (second ∷ rest)) words word e h some = (second, rest, sym e ∙ ap (λ w. w ∷ (second ∷ rest)) (sym h))

-- ---- without the last end the parts between ends are the lines

-- the bytes without an end at their end, one after another
abbrev cut : List ℕ → List ℕ
cut [] = []
cut (b ∷ []) = cond (b == 10) [] (b ∷ [])
cut (b ∷ (c ∷ bytes)) = b ∷ cut (c ∷ bytes)

abbrev cut_at : List ℕ → ℕ → List ℕ
cut_at bytes last = cond (slice_index bytes last == 10) (take last bytes) bytes

on_cond : (q : Bool) (b : ℕ) (xs ys : List ℕ) → cond q (b ∷ xs) (b ∷ ys) ≡ b ∷ cond q xs ys
on_cond true b xs ys = refl
on_cond false b xs ys = refl

cut_is : (bytes : List ℕ) (last : ℕ) → length bytes ≡ suc last → cut_at bytes last ≡ cut bytes
cut_is [] last e = absurd (omega arith)
cut_is (b ∷ []) zero e = refl
cut_is (b ∷ []) (suc last) e = absurd (omega arith)
cut_is (b ∷ (c ∷ bytes)) zero e = absurd (omega arith)
cut_is (b ∷ (c ∷ bytes)) (suc last) e = on_cond (slice_index (c ∷ bytes) last == 10) b (take last (c ∷ bytes)) (c ∷ bytes) ∙ ap (λ rest. b ∷ rest) (cut_is (c ∷ bytes) last (omega (arith, e)))

split_cut : (b : ℕ) (bytes : List ℕ) → slice_split is_end (cut (b ∷ bytes)) ≡ parts is_end (b ∷ bytes)
split_cut b [] = by (b == 10) refl
  where
    by : (q : Bool) → is_end b ≡ q → slice_split is_end (cond q [] (b ∷ [])) ≡ cond q ([] ∷ parts is_end []) (push_front b (parts is_end []))
    by true e = refl
    by false e = ap (λ t. cond t ([] ∷ slice_split is_end []) (onto_first b (slice_split is_end []))) e
split_cut b (c ∷ bytes) = ap (λ (ls : List (List ℕ)). cond (is_end b) ([] ∷ ls) (onto_first b ls)) (split_cut c bytes) ∙ ap (λ (front : List (List ℕ)). cond (is_end b) ([] ∷ parts is_end (c ∷ bytes)) front) (same_front b (parts is_end (c ∷ bytes)))

lines_are : (bytes : List ℕ) → 0 < length bytes → slice_split is_end (without_end bytes) ≡ parts is_end bytes
lines_are [] some = absurd (omega arith)
lines_are (b ∷ bytes) some =
    ap (slice_split is_end) (cut_is (b ∷ bytes) (length (b ∷ bytes) - 1) (omega arith)) ∙ split_cut b bytes

-- ---- lines that were read

pub bad_more : (n : ℕ) (xs ys : List (List ℕ)) → bad_from n xs ≡ None → bad_from n (xs ++ ys) ≡ bad_from (n + length xs) ys
bad_more n [] ys h = let e : n ≡ n + 0 = omega arith in ap (λ k. bad_from k ys) e
bad_more n (x ∷ xs) ys h = by (line_said n x) h (bad_more (n + 1) xs ys)
  where
    by : (said : Says) → or_later said n (bad_from (n + 1) xs) ≡ None → (bad_from (n + 1) xs ≡ None → bad_from (n + 1) (xs ++ ys) ≡ bad_from (n + 1 + length xs) ys)
        → or_later said n (bad_from (n + 1) (xs ++ ys)) ≡ bad_from (n + length (x ∷ xs)) ys
    by says.Nothing h rest = let e : n + 1 + length xs ≡ n + suc (length xs) = omega arith in rest h ∙ ap (λ k. bad_from k ys) e
    by (says.File name) h rest = let e : n + 1 + length xs ≡ n + suc (length xs) = omega arith in rest h ∙ ap (λ k. bad_from k ys) e
    by says.Other h rest = cc

names_more : (xs ys : List (List ℕ)) → names_on (xs ++ ys) ≡ names_on xs ++ names_on ys
names_more [] ys = refl
names_more (x ∷ xs) ys = by (line_says x) (names_more xs ys)
  where
    by : (said : Says) → names_on (xs ++ ys) ≡ names_on xs ++ names_on ys → with_said said (names_on (xs ++ ys)) ≡ with_said said (names_on xs) ++ names_on ys
    by says.Nothing h = h
    by (says.File name) h = ap (λ (rest : List (List ℕ)). name ∷ rest) h
    by says.Other h = h

-- the lines that a loop has gone over, each without a 0D at its end
abbrev pub lines_seen : List (Bor (List ℕ)) → List (List ℕ)
lines_seen parts = map (λ part. without_return part.now) parts

-- what stands after these: none is bad, and these are their names
pub record ReadSoFar (parts : List (Bor (List ℕ))) (number : ℕ) (names : List (List ℕ)) : Type 0 where
  pub count : number ≡ length parts
  pub few : number ≤ 65535
  pub named : names ≡ names_on (lines_seen parts)
  pub good : bad_from 1 (lines_seen parts) ≡ None

map_append : {A B : Type 0} (f : A → B) (xs ys : List A) → map f (xs ++ ys) ≡ map f xs ++ map f ys
map_append f [] ys = refl
map_append f (x ∷ xs) ys = ap (λ rest. f x ∷ rest) (map_append f xs ys)

map_length : {A B : Type 0} (f : A → B) (xs : List A) → length (map f xs) ≡ length xs
map_length f [] = refl
map_length f (x ∷ xs) = ap suc (map_length f xs)

-- a line that does not say something else stands in time, and says what it says
said_plain : (n : ℕ) (line : List ℕ) (said : Says) → ¬ (said ≡ says.Other) → line_said n line ≡ said → (n ≤ 65535) × (line_says line ≡ said)
said_plain n line said plain e = by (ltb 65535 n) refl e
  where
    by : (late : Bool) → ltb 65535 n ≡ late → cond late says.Other (line_says line) ≡ said → (n ≤ 65535) × (line_says line ≡ said)
    by true t e = absurd (plain (sym e))
    by false t e = (let most = ltb-false 65535 n t in omega (arith, most), e)

-- the first bad line of these and more
bad_behind : (parts : List (Bor (List ℕ))) (number : ℕ) (names : List (List ℕ)) (later : List (List ℕ)) → ReadSoFar parts number names → bad_from 1 (lines_seen parts ++ later) ≡ bad_from (number + 1) later
bad_behind parts number names later h =
    let count = h.count in
    let seen = map_length (λ (part : Bor (List ℕ)). without_return part.now) parts in
    let e : 1 + length (lines_seen parts) ≡ number + 1 = omega (arith, count, seen) in
    bad_more 1 (lines_seen parts) later h.good ∙ ap (λ n. bad_from n later) e

past_line : (parts : List (Bor (List ℕ))) (line : Bor (List ℕ)) (number : ℕ) (names : List (List ℕ)) (said : Says) → ¬ (said ≡ says.Other) → ReadSoFar parts number names → line_said (number + 1) (without_return line.now) ≡ said
    → or_later said (number + 1) None ≡ None → ReadSoFar (parts ++ line ∷ []) (number + 1) (names ++ with_said said [])
past_line parts line number names said plain h e later =
    let is = said_plain (number + 1) (without_return line.now) said plain e in
    let seen = map_append (λ (part : Bor (List ℕ)). without_return part.now) parts (line ∷ []) in
    let count = h.count in
    let more = length-append parts (line ∷ []) in
    record {
      count = omega (arith, count, more);
      few = is.0;
      named =
          ap (λ (front : List (List ℕ)). front ++ with_said said []) h.named
          ∙ ap (λ s. names_on (lines_seen parts) ++ with_said s []) (sym is.1)
          ∙ sym (ap names_on seen ∙ names_more (lines_seen parts) (without_return line.now ∷ []));
      good = ap (bad_from 1) seen ∙ bad_behind parts number names (without_return line.now ∷ []) h ∙ ap (λ s. or_later s (number + 1) None) e ∙ later;
    }

pub past_nothing : (parts : List (Bor (List ℕ))) (line : Bor (List ℕ)) (number : ℕ) (names : List (List ℕ)) → ReadSoFar parts number names → line_said (number + 1) (without_return line.now) ≡ says.Nothing → ReadSoFar (parts ++ line ∷ []) (number + 1) names
past_nothing parts line number names h e = subst (ReadSoFar (parts ++ line ∷ []) (number + 1)) (append-nil names) (past_line parts line number names says.Nothing (λ k. cc) h e refl)

pub past_file : (parts : List (Bor (List ℕ))) (line : Bor (List ℕ)) (number : ℕ) (names : List (List ℕ)) (name : List ℕ) → ReadSoFar parts number names → line_said (number + 1) (without_return line.now) ≡ says.File name
    → ReadSoFar (parts ++ line ∷ []) (number + 1) (names ++ name ∷ [])
past_file parts line number names name h e = past_line parts line number names (says.File name) (λ k. cc) h e refl

-- the lines that a loop has gone over are those of these parts
seen_are : (parts : List (Bor (List ℕ))) → lines_seen parts ≡ map without_return (map (λ part. part.now) parts)
seen_are [] = refl
seen_are (part ∷ parts) = ap (λ rest. without_return part.now ∷ rest) (seen_are parts)

-- the loop stops at a line that says something else
pub stops_at : (bytes : List ℕ) (all : List (List ℕ)) (parts : List (Bor (List ℕ))) (line : Bor (List ℕ)) (number : ℕ) (names : List (List ℕ)) → ReadSoFar parts number names → map without_return all ≡ lines_of bytes
    → map (λ part. part.now) parts ≡ take (length parts) all → length parts < length all → line.now ≡ get_or all (length parts) line.now → line_said (number + 1) (without_return line.now) ≡ says.Other → bad_line bytes ≡ Some (number + 1)
stops_at bytes all parts line number names h whole front within here e =
    let n = length parts in
    let cut : all ≡ take n all ++ get_or all n line.now ∷ drop (suc n) all =
    sym (take-append-drop n all) ∙ ap (λ (rest : List (List ℕ)). take n all ++ rest) (drop-cons all n line.now within) in
    let ordered : map without_return all ≡ lines_seen parts ++ without_return line.now ∷ map without_return (drop (suc n) all) =
    ap (map without_return) cut
    ∙ map_append without_return (take n all) (get_or all n line.now ∷ drop (suc n) all)
    ∙ ap (λ (front : List (List ℕ)). map without_return front ++ without_return (get_or all n line.now) ∷ map without_return (drop (suc n) all)) (sym front)
    ∙ ap (λ (front : List (List ℕ)). front ++ without_return (get_or all n line.now) ∷ map without_return (drop (suc n) all)) (sym (seen_are parts))
    ∙ ap (λ (l : List ℕ). lines_seen parts ++ without_return l ∷ map without_return (drop (suc n) all)) (sym here) in
    ap (bad_from 1) (sym whole ∙ ordered)
    ∙ bad_behind parts number names (without_return line.now ∷ map without_return (drop (suc n) all)) h
    ∙ ap (λ s. or_later s (number + 1) (bad_from (number + 1 + 1) (map without_return (drop (suc n) all)))) e

-- at the end all lines were read
pub all_read : (bytes : List ℕ) (all : List (List ℕ)) (parts : List (Bor (List ℕ))) (number : ℕ) (names : List (List ℕ)) → ReadSoFar parts number names → map without_return all ≡ lines_of bytes
    → map (λ part. part.now) parts ≡ all → (bad_line bytes ≡ None) × (names ≡ names_in bytes)
all_read bytes all parts number names h whole e =
    let lines : lines_seen parts ≡ lines_of bytes = seen_are parts ∙ ap (map without_return) e ∙ whole in
    (sym (ap (bad_from 1) lines) ∙ h.good, h.named ∙ ap names_on lines)

-- the parts between ends, each without a 0D at its end
pub parts_are : (bytes : List ℕ) → 0 < length bytes → map without_return (slice_split is_end (without_end bytes)) ≡ lines_of bytes
parts_are bytes some = ap (map without_return) (lines_are bytes some)
