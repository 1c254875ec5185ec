-- A line that is read is in the grammar, and one that is refused has that cause.
use Rattle.std.proofs.Common.{◌≡◌, ℕ, ◌+◌, ◌<◌, ◌≤◌, ◌⊎◌, inl, inr, Bool, true, false, cond, ◌&&◌, List, [], ◌∷◌, ◌++◌, drop, sym, refl, ap, ◌∙◌, arith, Option, Some, None, Ok, Err, lit<, subst, ltb, append-nil}
use Rattle.script_lang.specs.declared.scripts.ScriptError.{ScriptError}
use Rattle.script_lang.specs.declared.scripts.ScriptError.TheVariants as errors
use Rattle.std.specs.Prelude.{IfOk, IfErr, Result, option_and_then, IsTrue, codes, not}
use Rattle.std.specs.Fmt.{decimal}
use Rattle.std.specs.Str.{bytes_eq}
use Rattle.std.specs.List.{find}
use Rattle.std.proofs.lemmas.Bool.Decides.{nat_tests}
use Rattle.std.proofs.lemmas.Slice.Eq.{bytes_eq-Decides}
use Rattle.script_lang.specs.declared.scripts.Verb.{Verb}
use Rattle.script_lang.specs.declared.scripts.Cause.{Cause}
use Rattle.script_lang.specs.declared.scripts.Cause.TheVariants as causes
use Rattle.script_lang.specs.declared.verbs.VerbName.{VerbName}
use Rattle.script_lang.specs.declared.verbs.VerbName.TheVariants as names
use Rattle.script_lang.specs.declared.phrases.Said.{Said}
use Rattle.script_lang.specs.declared.sentence.Spoken.{Spoken}
use Rattle.script_lang.specs.Shown.{Reading}
use Rattle.script_lang.specs.Words.{lines_of, words_of, are_quiet, is_plain}
use Rattle.script_lang.specs.Numbers.{number_at_most}
use Rattle.script_lang.specs.Verbs.{verb_named, verb_text, binds, all_verbs}
use Rattle.script_lang.specs.Forms.{is_var}
use Rattle.script_lang.specs.Arguments.{Rest, said_of}
use Rattle.script_lang.specs.Parts.{bind_at, binds_well, is_taken, served, with_line, empty_script}
use Rattle.script_lang.specs.Reading.{◌>>=◌, or_cause, guard, caller_of, caller_at, verb_of, name_at, spoken_of, line_read, step, at_line, read_lines, Parses}
use Rattle.script_lang.specs.Grammar.{verb_name, arguments, Fits, wording, bind_words, IsSpoken, IsBound, Makes, AddsCall, Adds, Spells, Every, IsScript}
use Rattle.script_lang.specs.Causes.{verb_words, bind_word, Breaks, before, IsCause, BreaksFirst, ErrsAt}
use Rattle.script_lang.proofs.Digits.{number-again, number-found}
use Rattle.script_lang.proofs.Spelled.{bind_ok, some_is, word_found, word_again}
use Rattle.script_lang.proofs.SaidLaws.{said_found, said_spelled}

-- inversions
or_ok : {A B : Type 0} (c : Cause) (o : Option A) (f : A → Result B Cause) (y : B) → (or_cause c o >>= f) ≡ Ok y → (x : A) × (o ≡ Some x) × (f x ≡ Ok y)
or_ok c None f y e = cc
or_ok c (Some x) f y e = (x, refl, e)

or_err : {A B : Type 0} (c cause : Cause) (o : Option A) (f : A → Result B Cause) → (or_cause c o >>= f) ≡ Err cause → ((o ≡ None) × (c ≡ cause)) ⊎ ((x : A) × (o ≡ Some x) × (f x ≡ Err cause))
or_err c cause None f e = inl (refl, cc)
or_err c cause (Some x) f e = inr (x, refl, e)

guard_ok : {B : Type 0} (c : Cause) (b : Bool) (f : Unit {0} → Result B Cause) (y : B) → (guard b c >>= f) ≡ Ok y → (b ≡ true) × (f tt ≡ Ok y)
guard_ok c true f y e = (refl, e)
guard_ok c false f y e = cc

guard_err : {B : Type 0} (c cause : Cause) (b : Bool) (f : Unit {0} → Result B Cause) → (guard b c >>= f) ≡ Err cause → ((b ≡ false) × (c ≡ cause)) ⊎ ((b ≡ true) × (f tt ≡ Err cause))
guard_err c cause true f e = inr (refl, e)
guard_err c cause false f e = inl (refl, cc)

-- the caller
positive : (n c : ℕ) (b : Bool) → ltb 0 n ≡ b → cond b (Some n) None ≡ Some c → (1 ≤ n) × (n ≡ c)
positive n c true t e = (grind (arith, nat_tests), some_is n c e)
positive n c false t e = cc

caller_of_found : (w : List ℕ) (c : ℕ) → caller_of w ≡ Some c → (w ≡ decimal c) × (1 ≤ c) × (c ≤ 16)
unfolding caller_of
caller_of_found w c e =
    let b = bind_ok (number_at_most 16 w) (λ n. cond (ltb 0 n) (Some n) None) c e in
    let p = number-found 16 b.0 w (lit< tt) b.1 in
    let q = positive b.0 c (ltb 0 b.0) refl b.2 in
    (p.0 ∙ ap decimal q.1, omega (arith, q), omega (arith, q, p.1))

lt_true : (n : ℕ) → 1 ≤ n → ltb 0 n ≡ true
lt_true n h = grind (arith, nat_tests)

caller_of_again : (c : ℕ) → 1 ≤ c → c ≤ 16 → caller_of (decimal c) ≡ Some c
unfolding caller_of
caller_of_again c low high =
    ap (option_and_then (λ n. cond (ltb 0 n) (Some n) None)) (number-again 16 c (lit< tt) high) ∙ ap (λ t. cond t (Some c) None) (lt_true c low)

caller_found : (words rest : Rest) (c : ℕ) → caller_at words ≡ Some (c, rest) → (words ≡ decimal c ∷ rest) × (1 ≤ c) × (c ≤ 16)
unfolding caller_at
caller_found words rest c e =
    let w = word_found caller_of words rest c e in
    let p = caller_of_found w.0 c w.2 in
    (w.1 ∙ ap (λ t. t ∷ rest) p.0, p.1, p.2)

pub caller_again : (c : ℕ) (rest : Rest) → 1 ≤ c → c ≤ 16 → caller_at (decimal c ∷ rest) ≡ Some (c, rest)
unfolding caller_at
caller_again c rest low high = word_again caller_of (decimal c) rest c (caller_of_again c low high)

-- the verb
first_cond : (b : Bool) (x v : VerbName) (o : Option VerbName) (word : List ℕ) → (b ≡ true → word ≡ verb_text x) → (o ≡ Some v → word ≡ verb_text v) → cond b (Some x) o ≡ Some v → word ≡ verb_text v
first_cond true x v o word p q e = p refl ∙ ap verb_text (some_is x v e)
first_cond false x v o word p q e = q e

first_is : (vs : List VerbName) (word : List ℕ) (v : VerbName) → find (λ x. bytes_eq (verb_text x) word) vs ≡ Some v → word ≡ verb_text v
first_is [] word v e = cc
first_is (x ∷ vs) word v e =
    first_cond (bytes_eq (verb_text x) word) x v (find (λ y. bytes_eq (verb_text y) word) vs) word (λ t. sym ((bytes_eq-Decides (verb_text x) word).0 t)) (first_is vs word v) e

abbrev Known : Type 0
Known = VerbName → Bool

asked : {X : Type 0} (t : Bool) (x y : X) → cond t (Some x) None ≡ Some y → (t ≡ true) × (x ≡ y)
asked true x y e = (refl, some_is x y e)
asked false x y e = cc

verb_of_found : (known : Known) (w : List ℕ) (v : VerbName) → verb_of known w ≡ Some v → (w ≡ verb_text v) × IsTrue (known v)
unfolding verb_of
verb_of_found known w v e =
    let b = bind_ok (verb_named w) (λ x. cond (known x) (Some x) None) v e in
    let t = asked (known b.0) b.0 v b.2 in
    (first_is all_verbs w b.0 b.1 ∙ ap verb_text t.1, ap known (sym t.1) ∙ t.0)

name_found : (known : Known) (words rest : Rest) (v : VerbName) → name_at known words ≡ Some (v, rest) → (words ≡ verb_text v ∷ rest) × IsTrue (known v)
unfolding name_at
name_found known words rest v e =
    let w = word_found (verb_of known) words rest v e in
    let p = verb_of_found known w.0 v w.2 in
    (w.1 ∙ ap (λ t. t ∷ rest) p.0, p.1)

named_again : (v : VerbName) → verb_named (verb_text v) ≡ Some v
named_again names.Record = refl
named_again names.Concat = refl
named_again names.Sub = refl
named_again names.Replace = refl
named_again names.Length = refl
named_again names.Retain = refl
named_again names.Forget = refl
named_again names.Lookup = refl
named_again names.Census = refl
named_again names.Advance = refl
named_again names.Sweep = refl
named_again names.Describe = refl
named_again names.Queue = refl
named_again names.Play = refl
named_again names.Serve = refl
named_again names.Stop = refl
named_again names.Begin = refl
named_again names.Add = refl
named_again names.End = refl
named_again names.Levels = refl

verb_of_again : (known : Known) (v : VerbName) → IsTrue (known v) → verb_of known (verb_text v) ≡ Some v
unfolding verb_of
verb_of_again known v h = ap (option_and_then (λ x. cond (known x) (Some x) None)) (named_again v) ∙ ap (λ t. cond t (Some v) None) h

pub name_again : (known : Known) (v : VerbName) (rest : Rest) → IsTrue (known v) → name_at known (verb_text v ∷ rest) ≡ Some (v, rest)
unfolding name_at
name_again known v rest h = word_again (verb_of known) (verb_text v) rest v (verb_of_again known v h)

-- a text is that of one verb
pub one_verb : (v w : VerbName) → verb_text v ≡ verb_text w → v ≡ w
one_verb v w e = some_is v w (sym (named_again v) ∙ ap verb_named e ∙ named_again w)

abbrev first_of_words : Rest → List ℕ
first_of_words [] = []
first_of_words (w ∷ ws) = w

pub same_verb : (words rest args : Rest) (v w : VerbName) → words ≡ verb_text v ∷ rest → words ≡ verb_text w ∷ args → (v ≡ w) × (rest ≡ args)
same_verb words rest args v w e is =
    let both : verb_text v ∷ rest ≡ verb_text w ∷ args = sym e ∙ is in
    (one_verb v w (ap first_of_words both), ap (drop 1) both)

-- what is bound
abbrev Bound : Type 0
Bound = Option (List ℕ) × Rest

abbrev split_by : Bool → List ℕ → List ℕ → Rest → Bound
split_by b w sign ws = cond b (Some w, ws) (None, w ∷ (sign ∷ ws))

bound_split : (b : Bool) (w sign : List ℕ) (ws : Rest) → (b ≡ true → sign ≡ codes "=") → w ∷ (sign ∷ ws) ≡ bind_words (split_by b w sign ws).0 ++ (split_by b w sign ws).1
bound_split true w sign ws h = ap (λ s. w ∷ (s ∷ ws)) (h refl)
bound_split false w sign ws h = refl

split : (words : Rest) → words ≡ bind_words (bind_at words).0 ++ (bind_at words).1
unfolding bind_at
split [] = refl
split (w ∷ []) = refl
split (w ∷ (sign ∷ ws)) = bound_split (bytes_eq sign (codes "=")) w sign ws (λ t. (bytes_eq-Decides sign (codes "=")).0 t)

both : (a b : Bool) → (a && b) ≡ true → (a ≡ true) × (b ≡ true)
both true b e = (refl, e)
both false b e = cc

abbrev IsWell : VerbName → Option (List ℕ) → Type 0
IsWell w None = Unit {0}
IsWell w (Some name) = IsTrue (is_var name) × IsTrue (binds w)

bound_well : (v w : VerbName) (bind : Option (List ℕ)) → binds_well v bind ≡ true → w ≡ v → IsWell w bind
bound_well v w None e same = tt
bound_well v w (Some name) e same = let p = both (is_var name) (binds v) e in (p.0, ap binds same ∙ p.1)

abbrev ok_of : {A : Type 0} → A → Result A Cause
ok_of x = Ok x

ok_is : {A : Type 0} (x y : A) → ok_of x ≡ ok_of y → x ≡ y
ok_is x y e = cc

-- what is read of the words of a line
pub record Spoke (known : Known) (samples : List (List ℕ)) (words : Rest) (s : Spoken) : Type 0 where
  pub is : IsSpoken known samples s
  pub spelled : words ≡ wording s

as_bound : (verb : Verb) (bind : Option (List ℕ)) → IsWell (verb_name verb) bind → IsBound verb bind
as_bound verb None h = h
as_bound verb (Some name) h = h

pub spoken_found : (known : Known) (samples : List (List ℕ)) (words : Rest) (s : Spoken) → spoken_of known samples words ≡ Ok s → Spoke known samples words s
unfolding spoken_of
spoken_found known samples words s e =
    let a = or_ok causes.Caller (caller_at words) _ s e in
    let p = caller_found words a.0.1 a.0.0 a.1 in
    let b = or_ok causes.Verb (name_at known (bind_at a.0.1).1) _ s a.2 in
    let q = name_found known (bind_at a.0.1).1 b.0.1 b.0.0 b.1 in
    let d = or_ok causes.Arguments (said_of samples b.0.0 b.0.1) _ s b.2 in
    let r = said_found samples b.0.0 b.0.1 d.0 d.1 in
    let g = guard_ok causes.Bind (binds_well b.0.0 (bind_at a.0.1).0) _ s d.2 in
    let args : b.0.1 ≡ arguments d.0.verb d.0.file d.0.sample = r.spelled ∙ append-nil (arguments d.0.verb d.0.file d.0.sample) in
    let spoken : Spoken = record { caller = a.0.0; bind = (bind_at a.0.1).0; said = d.0 } in
    let rest : (bind_at a.0.1).1 ≡ verb_text (verb_name d.0.verb) ∷ arguments d.0.verb d.0.file d.0.sample =
    q.0 ∙ ap (λ v. verb_text v ∷ b.0.1) (sym r.named) ∙ ap (λ t. verb_text (verb_name d.0.verb) ∷ t) args in
    let spelled : words ≡ wording spoken = p.0 ∙ ap (λ t. decimal a.0.0 ∷ t) (split a.0.1 ∙ ap (λ t. bind_words (bind_at a.0.1).0 ++ t) rest) in
    let well = bound_well b.0.0 (verb_name d.0.verb) (bind_at a.0.1).0 g.0 r.named in
    let is : IsSpoken known samples spoken = record { least = p.1; most = p.2; taken = ap known r.named ∙ q.1; fits = r.fits; bind = as_bound d.0.verb (bind_at a.0.1).0 well } in
    let spoke : Spoke known samples words spoken = record { is = is; spelled = spelled } in
    subst (Spoke known samples words) (ok_is spoken s g.1) spoke

abbrev err_of : {A : Type 0} → Cause → Result A Cause
err_of c = Err c

err_same : {B : Type 0} (c d : Cause) → err_of {A = B} c ≡ Err d → c ≡ d
err_same c d e = cc

true_false : true ≡ false → ⊥
true_false e = cc

abbrev none_of : (A : Type 0) → Option A
none_of A = None

none_some : {A : Type 0} (x : A) → none_of A ≡ Some x → ⊥
none_some x e = cc

ok_err : {A : Type 0} {x : A} {c : Cause} → ok_of x ≡ Err c → ⊥
ok_err e = cc

-- what is wrong with a line that makes a call
spoken_bad : (known : Known) (n : ℕ) (r : Reading) (line : List ℕ) (cause : Cause) → n ≤ 65535 → Makes line → is_plain line ≡ true → spoken_of known r.samples (words_of line) ≡ Err cause → IsCause known cause n r line
unfolding spoken_of
spoken_bad known n r line cause few makes plain e =
    let no_lines : 65535 < n → ⊥ = λ h. omega arith in
    let no_bytes : Makes line × (is_plain line ≡ false) → ⊥ = λ h. true_false (sym plain ∙ h.1) in
    elim (or_err causes.Caller cause (caller_at (words_of line)) _ e) [
      | inl none ↦ subst (λ c. IsCause known c n r line) none.1
          ((makes, λ c rest low high eq. none_some (c, rest) (sym none.0 ∙ ap caller_at eq ∙ caller_again c rest low high)), (no_lines, (no_bytes, tt)))
      | inr a ↦
          let p = caller_found (words_of line) a.0.1 a.0.0 a.1 in
          let tail : drop 1 (words_of line) ≡ a.0.1 = ap (drop 1) p.0 in
          let verb : verb_words line ≡ (bind_at a.0.1).1 = ap (λ t. (bind_at t).1) tail in
          let bound : bind_word line ≡ (bind_at a.0.1).0 = ap (λ t. (bind_at t).0) tail in
          let no_caller : Breaks known causes.Caller n r line → ⊥ = λ h. h.1 a.0.0 a.0.1 p.1 p.2 p.0 in
          elim (or_err causes.Verb cause (name_at known (bind_at a.0.1).1) _ a.2) [
            | inl none ↦ subst (λ c. IsCause known c n r line) none.1
                ((makes, λ v rest has eq. none_some (v, rest) (sym none.0 ∙ ap (name_at known) (sym verb ∙ eq) ∙ name_again known v rest has)), (no_lines, (no_bytes, (no_caller, tt))))
            | inr b ↦
                let q = name_found known (bind_at a.0.1).1 b.0.1 b.0.0 b.1 in
                let no_verb : Breaks known causes.Verb n r line → ⊥ = λ h. h.1 b.0.0 b.0.1 q.1 (verb ∙ q.0) in
                elim (or_err causes.Arguments cause (said_of r.samples b.0.0 b.0.1) _ b.2) [
                  | inl none ↦ subst (λ c. IsCause known c n r line) none.1 (
                    (
                      makes,
                      λ said fits eq.
                          let same = same_verb (bind_at a.0.1).1 b.0.1 (arguments said.verb said.file said.sample) b.0.0 (verb_name said.verb) q.0 (sym verb ∙ eq) in
                          none_some said (sym none.0 ∙ ap (λ v. said_of r.samples v b.0.1) same.0 ∙ ap (said_of r.samples (verb_name said.verb)) same.1 ∙ said_spelled r.samples said fits),
                    ),
                    (no_lines, (no_bytes, (no_caller, (no_verb, tt)))),
                  )
                  | inr d ↦
                      elim (guard_err causes.Bind cause (binds_well b.0.0 (bind_at a.0.1).0) _ d.2) [
                        | inl g ↦
                            let f = said_found r.samples b.0.0 b.0.1 d.0 d.1 in
                            let args : b.0.1 ≡ arguments d.0.verb d.0.file d.0.sample = f.spelled ∙ append-nil (arguments d.0.verb d.0.file d.0.sample) in
                            let eq : verb_words line ≡ verb_text (verb_name d.0.verb) ∷ arguments d.0.verb d.0.file d.0.sample =
                            verb ∙ q.0 ∙ ap (λ v. verb_text v ∷ b.0.1) (sym f.named) ∙ ap (λ t. verb_text (verb_name d.0.verb) ∷ t) args in
                            let no_arguments : Breaks known causes.Arguments n r line → ⊥ = λ h. h.1 d.0 f.fits eq in
                            subst (λ c. IsCause known c n r line) g.1
                            ((makes, (b.0.0, b.0.1, verb ∙ q.0, ap (binds_well b.0.0) bound ∙ g.0)), (no_lines, (no_bytes, (no_caller, (no_verb, (no_arguments, tt))))))
                        | inr g ↦ absurd (ok_err g.1)
                      ]
                ]
          ]
    ]

-- a line that is spelled has nothing wrong up to what it binds
well_from : (v : VerbName) (verb : Verb) (bind : Option (List ℕ)) → IsBound verb bind → v ≡ verb_name verb → binds_well v bind ≡ true
well_from v verb None h same = refl
well_from v verb (Some name) h same = ap (λ t. t && binds v) h.0 ∙ ap binds same ∙ h.1

not_false : (b : Bool) → not b ≡ true → b ≡ false
not_false true e = cc
not_false false e = refl

not_true : (b : Bool) → not b ≡ false → b ≡ true
not_true true e = refl
not_true false e = cc

-- the parts of the words that were read
pub record Parts (known : Known) (samples : List (List ℕ)) (line : List ℕ) (s : Spoken) : Type 0 where
  pub caller : ℕ
  pub rest : Rest
  pub least : 1 ≤ caller
  pub most : caller ≤ 16
  pub called : words_of line ≡ decimal caller ∷ rest
  pub name : VerbName
  pub behind : Rest
  pub named : verb_words line ≡ verb_text name ∷ behind
  pub taken : IsTrue (known name)
  pub said : Said
  pub fits : Fits samples said.verb said.file said.sample
  pub spelled : verb_words line ≡ verb_text (verb_name said.verb) ∷ arguments said.verb said.file said.sample
  pub well : binds_well name (bind_word line) ≡ true

bind_of : (known : Known) (samples : List (List ℕ)) (line : List ℕ) (s : Spoken) → spoken_of known samples (words_of line) ≡ Ok s → Parts known samples line s
unfolding spoken_of
bind_of known samples line s e =
    let a = or_ok causes.Caller (caller_at (words_of line)) _ s e in
    let p = caller_found (words_of line) a.0.1 a.0.0 a.1 in
    let tail : drop 1 (words_of line) ≡ a.0.1 = ap (drop 1) p.0 in
    let verb : verb_words line ≡ (bind_at a.0.1).1 = ap (λ t. (bind_at t).1) tail in
    let bound : bind_word line ≡ (bind_at a.0.1).0 = ap (λ t. (bind_at t).0) tail in
    let b = or_ok causes.Verb (name_at known (bind_at a.0.1).1) _ s a.2 in
    let q = name_found known (bind_at a.0.1).1 b.0.1 b.0.0 b.1 in
    let d = or_ok causes.Arguments (said_of samples b.0.0 b.0.1) _ s b.2 in
    let f = said_found samples b.0.0 b.0.1 d.0 d.1 in
    let g = guard_ok causes.Bind (binds_well b.0.0 (bind_at a.0.1).0) _ s d.2 in
    let args : b.0.1 ≡ arguments d.0.verb d.0.file d.0.sample = f.spelled ∙ append-nil (arguments d.0.verb d.0.file d.0.sample) in
    record {
      caller = a.0.0;
      rest = a.0.1;
      least = p.1;
      most = p.2;
      called = p.0;
      name = b.0.0;
      behind = b.0.1;
      named = verb ∙ q.0;
      taken = q.1;
      said = d.0;
      fits = f.fits;
      spelled = verb ∙ q.0 ∙ ap (λ v. verb_text v ∷ b.0.1) (sym f.named) ∙ ap (λ t. verb_text (verb_name d.0.verb) ∷ t) args;
      well = ap (binds_well b.0.0) bound ∙ g.0;
    }

-- where the words are read, nothing is wrong but that a lane may be taken
nothing_wrong : (known : Known) (n : ℕ) (r : Reading) (line : List ℕ) (s : Spoken) → n ≤ 65535 → is_plain line ≡ true → Parts known r.samples line s → Every (λ c. Breaks known c n r line → ⊥) (before causes.LaneTaken)
nothing_wrong known n r line s few plain p = (
  λ h. omega arith,
  (
    λ h. true_false (sym plain ∙ h.1),
    (
      λ h. h.1 p.caller p.rest p.least p.most p.called,
      (
        λ h. h.1 p.name p.behind p.taken p.named,
        (
          λ h. h.1 p.said p.fits p.spelled,
          (
            λ h.
                let same = same_verb (verb_words line) p.behind h.1.1 p.name h.1.0 p.named h.1.2 in
                true_false (sym p.well ∙ ap (λ v. binds_well v (bind_word line)) same.0 ∙ h.1.3),
            tt,
          ),
        ),
      ),
    ),
  ),
)

then_ok : {A B : Type 0} (o : Result A Cause) (f : A → Result B Cause) (y : B) → (o >>= f) ≡ Ok y → (x : A) × (o ≡ Ok x) × (f x ≡ Ok y)
then_ok (Ok x) f y e = (x, refl, e)
then_ok (Err c) f y e = cc

then_err : {A B : Type 0} (o : Result A Cause) (f : A → Result B Cause) (cause : Cause) → (o >>= f) ≡ Err cause → (o ≡ Err cause) ⊎ ((x : A) × (o ≡ Ok x) × (f x ≡ Err cause))
then_err (Ok x) f cause e = inr (x, refl, e)
then_err (Err c) f cause e = inl (ap err_of (err_same c cause e))

line_found : (known : Known) (n : ℕ) (r m : Reading) (line : List ℕ) → Makes line → is_plain line ≡ true → line_read known n r line ≡ Ok m → AddsCall known n r line m
unfolding line_read
line_found known n r m line makes plain e =
    let a = then_ok (spoken_of known r.samples (words_of line)) _ m e in
    let g = guard_ok causes.LaneTaken (not (is_taken r.lines a.0.caller (served a.0.said.verb))) _ m a.2 in
    let s = spoken_found known r.samples (words_of line) a.0 a.1 in
    record {
      makes = makes;
      plain = plain;
      spoken = a.0;
      words = s.spelled;
      fits = s.is;
      free = not_false (is_taken r.lines a.0.caller (served a.0.said.verb)) g.0;
      grown = sym (ok_is (with_line n r a.0) m g.1);
    }

line_bad : (known : Known) (n : ℕ) (r : Reading) (line : List ℕ) (cause : Cause) → n ≤ 65535 → Makes line → is_plain line ≡ true → line_read known n r line ≡ Err cause → IsCause known cause n r line
unfolding line_read
line_bad known n r line cause few makes plain e =
    elim (then_err (spoken_of known r.samples (words_of line)) _ cause e) [
      | inl bad ↦ spoken_bad known n r line cause few makes plain bad
      | inr a ↦
          elim (guard_err causes.LaneTaken cause (not (is_taken r.lines a.0.caller (served a.0.said.verb))) _ a.2) [
            | inl g ↦
                let s = spoken_found known r.samples (words_of line) a.0 a.1 in
                let p = bind_of known r.samples line a.0 a.1 in
                subst (λ c. IsCause known c n r line) g.1
                ((makes, (a.0, s.spelled, s.is, not_true (is_taken r.lines a.0.caller (served a.0.said.verb)) g.0)), nothing_wrong known n r line a.0 few plain p)
            | inr g ↦ absurd (ok_err g.1)
          ]
    ]

-- a step
abbrev lines_error : Result Reading Cause
lines_error = Err causes.Lines

abbrev bytes_error : Result Reading Cause
bytes_error = Err causes.Bytes

step_cases : (t q p : Bool) (r : Reading) (read : Result Reading Cause) (answer : Result Reading Cause) → cond t (Err causes.Lines) (cond q (Ok r) (cond p read (Err causes.Bytes))) ≡ answer →
    ((t ≡ true) × (lines_error ≡ answer)) ⊎ (((t ≡ false) × (q ≡ true) × (ok_of r ≡ answer)) ⊎ (((t ≡ false) × (q ≡ false) × (p ≡ true) × (read ≡ answer)) ⊎ ((t ≡ false) × (q ≡ false) × (p ≡ false) × (bytes_error ≡ answer))))
step_cases true q p r read answer e = inl (refl, e)
step_cases false true p r read answer e = inr (inl (refl, refl, e))
step_cases false false true r read answer e = inr (inr (inl (refl, refl, refl, e)))
step_cases false false false r read answer e = inr (inr (inr (refl, refl, refl, e)))

lt_from : (n : ℕ) → ltb 65535 n ≡ true → 65535 < n
lt_from n e = grind (arith, nat_tests)

le_from : (n : ℕ) → ltb 65535 n ≡ false → n ≤ 65535
le_from n e = grind (arith, nat_tests)

err_is : (a b : Cause) → err_of {A = Reading} a ≡ Err b → a ≡ b
err_is a b e = cc

pub step_found : (known : Known) (n : ℕ) (r m : Reading) (line : List ℕ) → step known n r line ≡ Ok m → Adds known n r line m
unfolding step
step_found known n r m line e =
    elim (step_cases (ltb 65535 n) (are_quiet (words_of line)) (is_plain line) r (line_read known n r line) (Ok m) e) [
      | inl c ↦ absurd (ok_err (sym c.1))
      | inr (inl c) ↦ (le_from n c.0, inl (c.1, ok_is r m c.2))
      | inr (inr (inl c)) ↦ (le_from n c.0, inr (line_found known n r m line c.1 c.2 c.3))
      | inr (inr (inr c)) ↦ absurd (ok_err (sym c.3))
    ]

pub step_bad : (known : Known) (n : ℕ) (r : Reading) (line : List ℕ) (cause : Cause) → step known n r line ≡ Err cause → IsCause known cause n r line
unfolding step
step_bad known n r line cause e =
    elim (step_cases (ltb 65535 n) (are_quiet (words_of line)) (is_plain line) r (line_read known n r line) (Err cause) e) [
      | inl c ↦ subst (λ x. IsCause known x n r line) (err_is causes.Lines cause c.1) (lt_from n c.0, tt)
      | inr (inl c) ↦ absurd (ok_err c.2)
      | inr (inr (inl c)) ↦ line_bad known n r line cause (le_from n c.0) c.1 c.2 c.3
      | inr (inr (inr c)) ↦
          let few = le_from n c.0 in
          let no_lines : 65535 < n → ⊥ = λ h. omega arith in subst (λ x. IsCause known x n r line) (err_is causes.Bytes cause c.3) ((c.1, c.2), (no_lines, tt))
    ]

-- all lines
abbrev Whole : Type 0
Whole = Result Reading (ℕ × Cause)

abbrev done : Reading → Whole
done r = Ok r

abbrev stopped : ℕ → Cause → Whole
stopped n cause = Err (n, cause)

ok_all : (r m : Reading) → done r ≡ done m → r ≡ m
ok_all r m e = cc

ok_no_err : {r : Reading} {k : ℕ} {cause : Cause} → done r ≡ stopped k cause → ⊥
ok_no_err e = cc

abbrev either_of : Whole → ℕ × Cause
either_of (Ok r) = (0, causes.Lines)
either_of (Err p) = p

place_is : (n k : ℕ) (c d : Cause) → stopped n c ≡ stopped k d → (n ≡ k) × (c ≡ d)
place_is n k c d e =
    let f : Whole → ℕ × Cause = either_of in (ap (λ w. (f w).0) e, ap (λ w. (f w).1) e)

at_ok : (n : ℕ) (o : Result Reading Cause) (f : Reading → Whole) (m : Reading) → at_line n o f ≡ Ok m → (x : Reading) × (o ≡ Ok x) × (f x ≡ Ok m)
at_ok n (Ok x) f m e = (x, refl, e)
at_ok n (Err c) f m e = cc

at_err : (n k : ℕ) (cause : Cause) (o : Result Reading Cause) (f : Reading → Whole) → at_line n o f ≡ stopped k cause → ((n ≡ k) × (o ≡ Err cause)) ⊎ ((x : Reading) × (o ≡ Ok x) × (f x ≡ stopped k cause))
at_err n k cause (Ok x) f e = inr (x, refl, e)
at_err n k cause (Err c) f e = let p = place_is n k c cause e in inl (p.0, ap err_of p.1)

pub lines_found : (known : Known) (lines : List (List ℕ)) (n : ℕ) (r m : Reading) → read_lines known n r lines ≡ Ok m → Spells known n r lines m
lines_found known [] n r m e = ok_all r m e
lines_found known (line ∷ lines) n r m e =
    let a = at_ok n (step known n r line) _ m e in
    (a.0, step_found known n r a.0 line a.1, lines_found known lines (n + 1) a.0 m a.2)

pub lines_bad : (known : Known) (lines : List (List ℕ)) (n k : ℕ) (cause : Cause) (r : Reading) → read_lines known n r lines ≡ Err (k, cause) → BreaksFirst known n r lines k cause
lines_bad known [] n k cause r e = absurd (ok_no_err e)
lines_bad known (line ∷ lines) n k cause r e =
    elim (at_err n k cause (step known n r line) _ e) [
      | inl bad ↦ record {
        front = [];
        bad = line;
        rest = lines;
        so_far = r;
        whole = refl;
        spelled = refl;
        number = omega (arith, bad.0);
        is = subst (λ x. IsCause known cause x r line) bad.0 (step_bad known n r line cause bad.1);
      }
      | inr a ↦
          let b = lines_bad known lines (n + 1) k cause a.0 a.2 in
          record {
            front = line ∷ b.front;
            bad = b.bad;
            rest = b.rest;
            so_far = b.so_far;
            whole = ap (λ ls. line ∷ ls) b.whole;
            spelled = (a.0, step_found known n r a.0 line a.1, b.spelled);
            number = omega (arith, b.number);
            is = b.is;
          }
    ]

-- what the parser gives is what the grammar says
pub parsed_ok : (known : Known) (bytes : List ℕ) (result : Result Reading ScriptError) → Parses result (read_lines known 1 empty_script (lines_of bytes)) → IfOk result (IsScript known bytes)
parsed_ok known bytes (Ok r) e = lines_found known (lines_of bytes) 1 empty_script r e
parsed_ok known bytes (Err x) e = tt

pub parsed_bad : (known : Known) (bytes : List ℕ) (result : Result Reading ScriptError) → Parses result (read_lines known 1 empty_script (lines_of bytes)) → IfErr result (ErrsAt known bytes)
parsed_bad known bytes (Ok r) e = tt
parsed_bad known bytes (Err (errors.BadLine k cause)) e = lines_bad known (lines_of bytes) 1 k cause empty_script e
parsed_bad known bytes (Err errors.NoMemory) e = tt
