-- What is in the grammar is read.
use Rattle.std.proofs.Common.{◌≡◌, ℕ, zero, suc, ◌+◌, ◌^◌, ◌<◌, ◌≤◌, ◌⊎◌, inl, inr, Bool, true, false, cond, ◌&&◌, List, [], ◌∷◌, ◌++◌, length, get_or, take, drop, subst, sym, refl, ap, ◌∙◌, arith, Option, Some, None, Ok, Err, ltb}
use Rattle.std.specs.Prelude.{Result, IsTrue, codes}
use Rattle.std.specs.Fmt.{decimal}
use Rattle.std.specs.Str.{bytes_eq}
use Rattle.std.proofs.lemmas.Bool.{cases_order}
use Rattle.std.proofs.lemmas.Bool.Decides.{nat_tests}
use Rattle.std.proofs.lemmas.List.{get_or-take}
use Rattle.std.proofs.lemmas.Slice.Eq.{bytes_eq-Decides}
use Rattle.script_lang.specs.declared.scripts.ScriptError.{ScriptError}
use Rattle.script_lang.specs.declared.scripts.ScriptError.TheVariants as errors
use Rattle.script_lang.specs.declared.scripts.RopeArg.{RopeArg}
use Rattle.script_lang.specs.declared.scripts.RopeArg.TheVariants as ropes
use Rattle.script_lang.specs.declared.scripts.Verb.{Verb}
use Rattle.script_lang.specs.declared.scripts.Verb.TheVariants as verbs
use Rattle.script_lang.specs.declared.scripts.Cause.{Cause}
use Rattle.script_lang.specs.declared.scripts.Cause.TheVariants as causes
use Rattle.script_lang.specs.declared.sentence.Spoken.{Spoken}
use Rattle.voice_model.specs.declared.calls.Class.{Class}
use Rattle.voice_model.specs.declared.calls.Class.TheVariants as classes
use Rattle.script_lang.specs.Shown.{Reading}
use Rattle.script_lang.specs.Words.{lines_of, words_of, are_quiet}
use Rattle.script_lang.specs.Verbs.{verb_text, binds}
use Rattle.script_lang.specs.Forms.{is_var, is_key, is_file}
use Rattle.script_lang.specs.Arguments.{Rest}
use Rattle.script_lang.specs.declared.verbs.VerbName.{VerbName}
use Rattle.script_lang.specs.Parts.{bind_at, binds_well, is_taken, served, empty_script}
use Rattle.script_lang.specs.Reading.{spoken_of, line_read, step, at_line, read_lines, Parses}
use Rattle.script_lang.specs.Causes.{IsRead, StopsAt, FirstBad, BreaksFirst, IsCause, Breaks, before, verb_words}
use Rattle.script_lang.specs.Grammar.{Every, verb_name, arguments, Fits, wording, bind_words, IsSpoken, IsBound, AddsCall, Adds, Spells, IsScript, rope_text, class_text, IsRope}
use Rattle.script_lang.proofs.Digits.{decimal_first}
use Rattle.script_lang.proofs.SaidLaws.{said_spelled}
use Rattle.script_lang.proofs.Steps.{caller_again, name_again, same_verb, step_found, step_bad}

-- no argument is `=`
decide : (b : Bool) (P : Type 0) → (b ≡ true → P) → (P → ⊥) → b ≡ false
decide true P f n = absurd (n (f refl))
decide false P f n = refl

no_number : (n : ℕ) → n < 2 ^ 64 → decimal n ≡ codes "=" → ⊥
no_number n h e = let f = decimal_first n h in omega (arith, f, ap (λ w. get_or w 0 0) e)

no_class : (k : Class) → class_text k ≡ codes "=" → ⊥
no_class classes.Held e = cc
no_class classes.Until e = cc
no_class classes.Listed e = cc

true_false : true ≡ false → ⊥
true_false e = cc

no_test : (test : List ℕ → Bool) (w : List ℕ) → test (codes "=") ≡ false → IsTrue (test w) → w ≡ codes "=" → ⊥
no_test test w lacks has e = true_false (sym has ∙ ap test e ∙ lacks)

no_rope : (r : RopeArg) → IsRope r → rope_text r ≡ codes "=" → ⊥
no_rope (ropes.Id n) h e = no_number n (omega arith) e
no_rope (ropes.Var name) h e = no_test is_var name refl h e

-- the first of them, if there is one
abbrev Free : Rest → Type 0
Free [] = Unit {0}
Free (w ∷ ws) = w ≡ codes "=" → ⊥

free : (samples : List (List ℕ)) (verb : Verb) (file sample : Option (List ℕ)) → Fits samples verb file sample → Free (arguments verb file sample)
free samples (verbs.Record tape) file None f = absurd f.1
free samples (verbs.Record tape) file (Some name) f = no_test is_file name refl f.1.0
free samples (verbs.Concat []) file sample f = tt
free samples (verbs.Concat (r ∷ rs)) file sample f = no_rope r f.4.0
free samples (verbs.Sub rope start len) file sample f = no_rope rope f.2
free samples (verbs.Replace rope start len with) file sample f = no_rope rope f.2
free samples (verbs.Length rope) file sample f = no_rope rope f.2
free samples (verbs.Retain class key rope note) file sample f = no_class class
free samples (verbs.Forget class key) file sample f = no_class class
free samples (verbs.Lookup class key) file sample f = no_class class
free samples (verbs.Census []) file sample f = tt
free samples (verbs.Census (k ∷ ks)) file sample f = no_test is_key k refl f.3.0
free samples (verbs.Advance moment) file sample f = no_number moment (omega (arith, f.2))
free samples (verbs.Sweep limit) file sample f = no_number limit (omega (arith, f.2))
free samples (verbs.Describe rope) file sample f = no_rope rope f.2
free samples (verbs.Queue lane rope start len) file sample f = no_number lane (omega (arith, f.2))
free samples (verbs.Play lane rope start len) file sample f = no_number lane (omega (arith, f.2))
free samples (verbs.Serve lane) file sample f = no_number lane (omega (arith, f.2))
free samples (verbs.Stop lane) file sample f = no_number lane (omega (arith, f.2))
free samples (verbs.Begin lane) file sample f = no_number lane (omega (arith, f.2))
free samples (verbs.Add lane tape) file sample f = no_number lane (omega (arith, f.2))
free samples (verbs.End lane) file sample f = no_number lane (omega (arith, f.2))
free samples (verbs.Levels rope) file sample f = no_rope rope f.2

abbrev Bound : Type 0
Bound = Option (List ℕ) × Rest

abbrev unbound : Rest → Bound
unbound words = (None, words)

abbrev bound_as : Option (List ℕ) → Rest → Bound
bound_as bind words = (bind, words)

no_sign : (w : List ℕ) (ws : Rest) → Free ws → bind_at (w ∷ ws) ≡ unbound (w ∷ ws)
unfolding bind_at
no_sign w [] f = refl
no_sign w (sign ∷ ws) f = ap (λ t. cond t (Some w, ws) (None, w ∷ (sign ∷ ws))) (decide (bytes_eq sign (codes "=")) (sign ≡ codes "=") (bytes_eq-Decides sign (codes "=")).0 f)

bind_again : (bind : Option (List ℕ)) (w : List ℕ) (ws : Rest) → Free ws → bind_at (bind_words bind ++ w ∷ ws) ≡ bound_as bind (w ∷ ws)
unfolding bind_at
bind_again None w ws f = no_sign w ws f
bind_again (Some name) w ws f = refl

well_again : (verb : Verb) (bind : Option (List ℕ)) → IsBound verb bind → binds_well (verb_name verb) bind ≡ true
well_again verb None h = refl
well_again verb (Some name) h = ap (λ t. t && binds (verb_name verb)) h.0 ∙ h.1

abbrev pub Known : Type 0
Known = VerbName → Bool

spoken_again : (known : Known) (samples : List (List ℕ)) (s : Spoken) → IsSpoken known samples s → spoken_of known samples (wording s) ≡ Ok s
unfolding spoken_of
spoken_again known samples s h =
    let args = arguments s.said.verb s.said.file s.said.sample in
    let rest = bind_words s.bind ++ verb_text (verb_name s.said.verb) ∷ args in
    let e1 = caller_again s.caller rest h.least h.most in
    let e2 = bind_again s.bind (verb_text (verb_name s.said.verb)) args (free samples s.said.verb s.said.file s.said.sample h.fits) in
    let e3 = name_again known (verb_name s.said.verb) args h.taken in
    let e4 = said_spelled samples s.said h.fits in
    let e5 = well_again s.said.verb s.bind h.bind in
    rw (e1, e2, e3, e4, e5) refl

line_again : (known : Known) (n : ℕ) (r m : Reading) (line : List ℕ) → AddsCall known n r line m → line_read known n r line ≡ Ok m
unfolding line_read
line_again known n r m line h =
    let e1 : spoken_of known r.samples (words_of line) ≡ Ok h.spoken = ap (spoken_of known r.samples) h.words ∙ spoken_again known r.samples h.spoken h.fits in
    rw (e1, h.free) (ap Ok (sym h.grown))

le_false : (n : ℕ) → n ≤ 65535 → ltb 65535 n ≡ false
le_false n h = grind (arith, nat_tests)

step_again : (known : Known) (n : ℕ) (r m : Reading) (line : List ℕ) → Adds known n r line m → step known n r line ≡ Ok m
unfolding step
step_again known n r m line h =
    let few = le_false n h.0 in
    elim h.1 [
      | inl q ↦ let quiet = q.0 in rw (few, quiet) (ap Ok q.1)
      | inr c ↦ let makes = c.makes in let plain = c.plain in rw (few, makes, plain) (line_again known n r m line c)
    ]

pub lines_again : (known : Known) (lines : List (List ℕ)) (n : ℕ) (r m : Reading) → Spells known n r lines m → read_lines known n r lines ≡ Ok m
lines_again known [] n r m h = ap Ok h
lines_again known (line ∷ lines) n r m h =
    ap (λ s. at_line n s (λ q. read_lines known (n + 1) q lines)) (step_again known n r h.0 line h.1) ∙ lines_again known lines (n + 1) h.0 m h.2

abbrev pub Whole : Type 0
Whole = Result Reading (ℕ × Cause)

abbrev pub done : Reading → Whole
done r = Ok r

abbrev pub stopped : ℕ → Cause → Whole
stopped n cause = Err (n, cause)

pub done_is : (r m : Reading) → done r ≡ done m → r ≡ m
done_is r m e = cc

pub not_both : (r : Reading) (n : ℕ) (cause : Cause) → stopped n cause ≡ done r → ⊥
not_both r n cause e = cc

pub parsed_only : (known : Known) (bytes : List ℕ) (result : Result Reading ScriptError) → Parses result (read_lines known 1 empty_script (lines_of bytes)) → (m : Reading) → IsScript known bytes m → IsRead result m
parsed_only known bytes (Ok r) e m h = done_is r m (sym e ∙ lines_again known (lines_of bytes) 1 empty_script m h)
parsed_only known bytes (Err (errors.BadLine k cause)) e m h = not_both m k cause (sym e ∙ lines_again known (lines_of bytes) 1 empty_script m h)
parsed_only known bytes (Err errors.NoMemory) e m h = tt

-- the causes in their order
abbrev in_order : List Cause
in_order = causes.Lines ∷ causes.Bytes ∷ causes.Caller ∷ causes.Verb ∷ causes.Arguments ∷ causes.Bind ∷ causes.LaneTaken ∷ []

abbrev rank : Cause → ℕ
rank cause = length (before cause)

-- each stands behind those before it
is_ranked : (c : Cause) → (get_or in_order (rank c) causes.Lines ≡ c) × (before c ≡ take (rank c) in_order)
is_ranked causes.Lines = (refl, refl)
is_ranked causes.Bytes = (refl, refl)
is_ranked causes.Caller = (refl, refl)
is_ranked causes.Verb = (refl, refl)
is_ranked causes.Arguments = (refl, refl)
is_ranked causes.Bind = (refl, refl)
is_ranked causes.LaneTaken = (refl, refl)

every_at : (P : Cause → Type 0) (xs : List Cause) (k : ℕ) → k < length xs → Every P xs → P (get_or xs k causes.Lines)
every_at P [] k lt h = absurd (omega (arith, lt))
every_at P (x ∷ xs) zero lt h = h.0
every_at P (x ∷ xs) (suc k) lt h = every_at P xs k (omega (arith, lt)) h.1

-- what holds of all causes before another holds of each of lower rank
is_before : (P : Cause → Type 0) (c d : Cause) → rank c < rank d → Every P (before d) → P c
is_before P c d lt h =
    let place : get_or (before d) (rank c) causes.Lines ≡ c = ap (λ (xs : List Cause). get_or xs (rank c) causes.Lines) (is_ranked d).1 ∙ get_or-take (rank d) in_order (rank c) causes.Lines lt ∙ (is_ranked c).0 in
    subst P place (every_at P (before d) (rank c) lt h)

-- a line is refused for its first cause
one_cause : (known : Known) (n : ℕ) (r : Reading) (line : List ℕ) (c d : Cause) → IsCause known c n r line → IsCause known d n r line → c ≡ d
one_cause known n r line c d p q = by (cases_order (rank c) (rank d))
  where
    Is_not : Cause → Type 0
    Is_not x = Breaks known x n r line → ⊥

    by : (rank c ≡ rank d) ⊎ ((rank c < rank d) ⊎ (rank d < rank c)) → c ≡ d
    by (inl same) = sym (is_ranked c).0 ∙ ap (λ (k : ℕ). get_or in_order k causes.Lines) same ∙ (is_ranked d).0
    by (inr (inl lt)) = absurd (is_before Is_not c d lt q.1 p.0)
    by (inr (inr lt)) = absurd (is_before Is_not d c lt p.1 q.0)

abbrev Ok_is : Spoken → Result Spoken Cause
Ok_is s = Ok s

spoken_is : (s t : Spoken) → Ok_is s ≡ Ok_is t → s ≡ t
spoken_is s t e = cc

abbrev bad_as : Cause → Result Reading Cause
bad_as c = Err c

past : (n : ℕ) → 65535 < n → n ≤ 65535 → ⊥
past n a b = omega arith

abbrev pair_of : Whole → ℕ × Cause
pair_of (Ok r) = (0, causes.Lines)
pair_of (Err p) = p

behind_verb : (known : Known) (line : List ℕ) (samples : List (List ℕ)) (s : Spoken) → words_of line ≡ wording s → IsSpoken known samples s →
    (bind_at (drop 1 (words_of line))) ≡ bound_as s.bind (verb_text (verb_name s.said.verb) ∷ arguments s.said.verb s.said.file s.said.sample)
behind_verb known line samples s e h =
    ap (λ w. bind_at (drop 1 w)) e ∙ bind_again s.bind (verb_text (verb_name s.said.verb)) (arguments s.said.verb s.said.file s.said.sample) (free samples s.said.verb s.said.file s.said.sample h.fits)

quiet_no_call : (q : Bool) → q ≡ true → q ≡ false → ⊥
quiet_no_call q t f = true_false (sym t ∙ f)

-- a line that adds something has nothing wrong
adds_breaks : (known : Known) (c : Cause) (n : ℕ) (r m : Reading) (line : List ℕ) → AddsCall known n r line m → n ≤ 65535 → Breaks known c n r line → ⊥
adds_breaks known causes.Lines n r m line h few b = omega arith
adds_breaks known causes.Bytes n r m line h few b = true_false (sym h.plain ∙ b.1)
adds_breaks known causes.Caller n r m line h few b = b.1 h.spoken.caller (bind_words h.spoken.bind ++ verb_text (verb_name h.spoken.said.verb) ∷ arguments h.spoken.said.verb h.spoken.said.file h.spoken.said.sample) h.fits.least h.fits.most h.words
adds_breaks known causes.Verb n r m line h few b =
    b.1 (verb_name h.spoken.said.verb) (arguments h.spoken.said.verb h.spoken.said.file h.spoken.said.sample) h.fits.taken (ap (λ (p : Bound). p.1) (behind_verb known line r.samples h.spoken h.words h.fits))
adds_breaks known causes.Arguments n r m line h few b = b.1 h.spoken.said h.fits.fits (ap (λ (p : Bound). p.1) (behind_verb known line r.samples h.spoken h.words h.fits))
adds_breaks known causes.Bind n r m line h few b =
    let args = arguments h.spoken.said.verb h.spoken.said.file h.spoken.said.sample in
    let both = behind_verb known line r.samples h.spoken h.words h.fits in
    let same = same_verb (verb_words line) args b.1.1 (verb_name h.spoken.said.verb) b.1.0 (ap (λ (p : Bound). p.1) both) b.1.2 in
    let well = well_again h.spoken.said.verb h.spoken.bind h.fits.bind in
    true_false (sym well ∙ ap (λ v. binds_well v h.spoken.bind) same.0 ∙ ap (λ (p : Bound). binds_well b.1.0 p.0) (sym both) ∙ b.1.3)
adds_breaks known causes.LaneTaken n r m line h few b =
    let one : Ok_is h.spoken ≡ Ok_is b.1.0 = sym (spoken_again known r.samples h.spoken h.fits) ∙ ap (spoken_of known r.samples) (sym h.words ∙ b.1.1) ∙ spoken_again known r.samples b.1.0 b.1.2 in
    let same : h.spoken ≡ b.1.0 = spoken_is h.spoken b.1.0 one in
    true_false (sym b.1.3 ∙ ap (λ s. is_taken r.lines s.caller (served s.said.verb)) (sym same) ∙ h.free)

makes_from : (known : Known) (c : Cause) (n : ℕ) (r : Reading) (line : List ℕ) → Breaks known c n r line → (65535 < n) ⊎ (are_quiet (words_of line) ≡ false)
makes_from known causes.Lines n r line b = inl b
makes_from known causes.Bytes n r line b = inr b.0
makes_from known causes.Caller n r line b = inr b.0
makes_from known causes.Verb n r line b = inr b.0
makes_from known causes.Arguments n r line b = inr b.0
makes_from known causes.Bind n r line b = inr b.0
makes_from known causes.LaneTaken n r line b = inr b.0

no_break : (known : Known) (c : Cause) (n : ℕ) (r m : Reading) (line : List ℕ) → Adds known n r line m → Breaks known c n r line → ⊥
no_break known c n r m line h b =
    elim h.1 [
      | inl q ↦ elim (makes_from known c n r line b) [ inl long ↦ absurd (past n long h.0) | inr makes ↦ true_false (sym q.0 ∙ makes) ]
      | inr a ↦ adds_breaks known c n r m line a h.0 b
    ]

one_way : (known : Known) (n : ℕ) (r : Reading) (line : List ℕ) (c : Cause) (s : Result Reading Cause) → step known n r line ≡ s → IsCause known c n r line → s ≡ Err c
one_way known n r line c (Ok m) e h = absurd (no_break known c n r m line (step_found known n r m line e) h.0)
one_way known n r line c (Err d) e h = ap bad_as (one_cause known n r line d c (step_bad known n r line d e) h)

front_again : (known : Known) (front : List (List ℕ)) (n : ℕ) (r m : Reading) (bad : List ℕ) (rest : List (List ℕ)) (cause : Cause) → Spells known n r front m → IsCause known cause (n + length front) m bad → read_lines known n r (front ++ bad ∷ rest) ≡ stopped (n + length front) cause
front_again known [] n r m bad rest cause h c =
    let P : Reading → Type 0 = λ q. IsCause known cause (n + 0) q bad in
    let same : n + 0 ≡ n = omega arith in
    let at : IsCause known cause n r bad = subst (λ k. IsCause known cause k r bad) same (subst P (sym h) c) in
    ap (λ s. at_line n s (λ q. read_lines known (n + 1) q rest)) (one_way known n r bad cause (step known n r bad) refl at) ∙ ap (λ k. stopped k cause) (sym same)
front_again known (line ∷ front) n r m bad rest cause h c =
    let same : n + suc (length front) ≡ n + 1 + length front = omega arith in
    let at : IsCause known cause (n + 1 + length front) m bad = subst (λ k. IsCause known cause k m bad) same c in
    ap (λ s. at_line n s (λ q. read_lines known (n + 1) q (front ++ bad ∷ rest))) (step_again known n r h.0 line h.1)
    ∙ front_again known front (n + 1) h.0 m bad rest cause h.2 at ∙ ap (λ k. stopped k cause) (sym same)

pub bad_again : (known : Known) (lines : List (List ℕ)) (k : ℕ) (cause : Cause) → BreaksFirst known 1 empty_script lines k cause → read_lines known 1 empty_script lines ≡ stopped k cause
bad_again known lines k cause b =
    let at : IsCause known cause (1 + length b.front) b.so_far b.bad = subst (λ i. IsCause known cause i b.so_far b.bad) b.number b.is in
    ap (read_lines known 1 empty_script) b.whole ∙ front_again known b.front 1 empty_script b.so_far b.bad b.rest cause b.spelled at ∙ ap (λ i. stopped i cause) (sym b.number)

pub stopped_is : (n k : ℕ) (c d : Cause) → stopped n c ≡ stopped k d → (n ≡ k) × (c ≡ d)
stopped_is n k c d e = (ap (λ (w : Whole). (pair_of w).0) e, ap (λ (w : Whole). (pair_of w).1) e)

pub parsed_exact : (known : Known) (bytes : List ℕ) (result : Result Reading ScriptError) → Parses result (read_lines known 1 empty_script (lines_of bytes)) → (k : ℕ) (cause : Cause) → FirstBad known bytes k cause → StopsAt result k cause
parsed_exact known bytes (Ok r) e k cause b = not_both r k cause (sym (bad_again known (lines_of bytes) k cause b) ∙ e)
parsed_exact known bytes (Err (errors.BadLine n c)) e k cause b = stopped_is n k c cause (sym e ∙ bad_again known (lines_of bytes) k cause b)
parsed_exact known bytes (Err errors.NoMemory) e k cause b = tt
