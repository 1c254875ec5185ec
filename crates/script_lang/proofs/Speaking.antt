-- Adding a line to a script.
use Rattle.std.proofs.Common.{◌≡◌, ℕ, ◌<◌, Bool, true, false, List, [], ◌∷◌, ◌++◌, sym, refl, ap, ◌∙◌, arith, Option, Some, None, Ok, Err, cond, ltb, length, subst}
use Rattle.std.specs.Prelude.{IfSome, is_some, unwrap_or}
use Rattle.std.proofs.lemmas.Bool.Decides.{Decides-ltb}
use Rattle.script_lang.specs.Samples.{place_of}
use Rattle.script_lang.specs.declared.scripts.Cause.TheVariants.{LaneTaken}
use Rattle.script_lang.specs.declared.scripts.Line.{Line}
use Rattle.script_lang.specs.declared.scripts.Verb.{Verb}
use Rattle.script_lang.specs.declared.scripts.Verb.TheVariants as verbs
use Rattle.script_lang.specs.declared.verbs.VerbName.{VerbName}
use Rattle.script_lang.specs.declared.sentence.Spoken.{Spoken}
use Rattle.script_lang.specs.Words.{words_of}
use Rattle.script_lang.specs.Shown.{Reading}
use Rattle.script_lang.specs.Parts.{served, is_known, mention, is_taken, with_line, line_of}
use Rattle.script_lang.specs.Owners.{is_owned, with_owner, Owns}
use Rattle.script_lang.specs.Arguments.{Rest}
use Rattle.script_lang.specs.Grammar.{Fits, IsSample}
use Rattle.script_lang.specs.Reading.{spoken_of, line_read}
use Rattle.script_lang.proofs.Steps.{spoken_found}
use Rattle.script_lang.proofs.Owning.{owned_of, owns_more}

lane_small : (samples : List (List ℕ)) (verb : Verb) (file sample : Option (List ℕ)) → Fits samples verb file sample → IfSome (served verb) (λ n. n < 16)
lane_small samples (verbs.Record tape) file sample f = tt
lane_small samples (verbs.Concat args) file sample f = tt
lane_small samples (verbs.Sub rope start len) file sample f = tt
lane_small samples (verbs.Replace rope start len with) file sample f = tt
lane_small samples (verbs.Length rope) file sample f = tt
lane_small samples (verbs.Retain class key rope note) file sample f = tt
lane_small samples (verbs.Forget class key) file sample f = tt
lane_small samples (verbs.Lookup class key) file sample f = tt
lane_small samples (verbs.Census keys) file sample f = tt
lane_small samples (verbs.Advance moment) file sample f = tt
lane_small samples (verbs.Sweep limit) file sample f = tt
lane_small samples (verbs.Describe rope) file sample f = tt
lane_small samples (verbs.Queue lane rope start len) file sample f = tt
lane_small samples (verbs.Play lane rope start len) file sample f = omega (arith, f.2)
lane_small samples (verbs.Serve lane) file sample f = omega (arith, f.2)
lane_small samples (verbs.Stop lane) file sample f = tt
lane_small samples (verbs.Begin lane) file sample f = tt
lane_small samples (verbs.Add lane tape) file sample f = tt
lane_small samples (verbs.End lane) file sample f = tt
lane_small samples (verbs.Levels rope) file sample f = tt

pub served_small : (known : VerbName → Bool) (samples : List (List ℕ)) (words : Rest) (s : Spoken) (o : Option ℕ) → spoken_of known samples words ≡ Ok s → o ≡ served s.said.verb → IfSome o (λ n. n < 16)
served_small known samples words s o e same =
    let small = lane_small samples s.said.verb s.said.file s.said.sample (spoken_found known samples words s e).is.fits in
    let P : Option ℕ → Type 0 = λ lane. IfSome lane (λ n. n < 16) in
    subst P (sym same) small

pub speaks_owned : (known : VerbName → Bool) (samples : List (List ℕ)) (words : Rest) (s : Spoken) (n : ℕ) (owners new : List ℕ) (lines all : List Line) → spoken_of known samples words ≡ Ok s → Owns owners lines →
    is_owned owners s.caller (served s.said.verb) ≡ false → new ≡ with_owner owners s.caller (served s.said.verb) → all ≡ lines ++ line_of n s ∷ [] → Owns new all
speaks_owned known samples words s n owners new lines all e h free at more =
    let is = (spoken_found known samples words s e).is in
    let small = lane_small samples s.said.verb s.said.file s.said.sample is.fits in
    let done = owns_more owners lines (line_of n s) h is.least small free in
    let P : List ℕ → Type 0 = λ o. Owns o all in
    let Q : List Line → Type 0 = λ l. Owns (with_owner owners s.caller (served s.said.verb)) l in
    subst P (sym at) (subst Q (sym more) done)

reading_is : (l k : List Line) (s t : List (List ℕ)) (c d : ℕ) → l ≡ k → s ≡ t → c ≡ d →
    (let a : Reading = record { lines = l; samples = s; callers = c } in let b : Reading = record { lines = k; samples = t; callers = d } in a ≡ b)
reading_is l k s t c d p q r = λ i. record { lines = p i; samples = q i; callers = r i }

pub speaks_line : (known : VerbName → Bool) (n : ℕ) (r : Reading) (line : List ℕ) (s : Spoken) (owners : List ℕ) (lines : List Line) (samples : List (List ℕ)) (callers : ℕ) → spoken_of known r.samples (words_of line) ≡ Ok s → Owns owners r.lines →
    is_owned owners s.caller (served s.said.verb) ≡ false → lines ≡ (with_line n r s).lines → samples ≡ (with_line n r s).samples → callers ≡ (with_line n r s).callers →
    line_read known n r line ≡ Ok (record { lines = lines; samples = samples; callers = callers })
unfolding line_read
speaks_line known n r line s owners lines samples callers e h free a b c =
    let small = lane_small r.samples s.said.verb s.said.file s.said.sample (spoken_found known r.samples (words_of line) s e).is.fits in
    let untaken : is_taken r.lines s.caller (served s.said.verb) ≡ false = owned_of owners r.lines s.caller (served s.said.verb) h small ∙ free in
    rw (e, untaken) (ap Ok (sym (reading_is lines (with_line n r s).lines samples (with_line n r s).samples callers (with_line n r s).callers a b c)))

pub speaks_taken : (known : VerbName → Bool) (n : ℕ) (r : Reading) (line : List ℕ) (s : Spoken) (owners : List ℕ) → spoken_of known r.samples (words_of line) ≡ Ok s → Owns owners r.lines →
    is_owned owners s.caller (served s.said.verb) ≡ true → line_read known n r line ≡ Err LaneTaken
unfolding line_read
speaks_taken known n r line s owners e h held =
    let small = lane_small r.samples s.said.verb s.said.file s.said.sample (spoken_found known r.samples (words_of line) s e).is.fits in
    let taken : is_taken r.lines s.caller (served s.said.verb) ≡ true = owned_of owners r.lines s.caller (served s.said.verb) h small ∙ held in
    rw (e, taken) refl

-- a tape that was mentioned before has its name among the samples
placed : (o : Option ℕ) (n tape : ℕ) (xs ys : List (List ℕ)) → tape ≡ unwrap_or o n → ltb tape n ≡ true → cond (is_some o) xs ys ≡ xs
placed (Some k) n tape xs ys e h = refl
placed None n tape xs ys e h = absurd (let low : tape < n = (Decides-ltb tape n).0 h in omega arith)

known_sample : (samples : List (List ℕ)) (tape : ℕ) (sample : Option (List ℕ)) → IsSample samples tape sample → ltb tape (length samples) ≡ true → mention samples sample ≡ samples
known_sample samples tape None f h = refl
known_sample samples tape (Some name) f h = placed (place_of samples name) (length samples) tape samples (samples ++ name ∷ []) f.1 h

never : false ≡ true → ⊥
never e = cc

known_fits : (samples : List (List ℕ)) (verb : Verb) (file sample : Option (List ℕ)) → Fits samples verb file sample → is_known verb (length samples) ≡ true → mention samples sample ≡ samples
known_fits samples (verbs.Record tape) file sample f h = known_sample samples tape sample f.1 h
known_fits samples (verbs.Add lane tape) file sample f h = known_sample samples tape sample f.1 h
known_fits samples (verbs.Concat args) file sample f h = absurd (never h)
known_fits samples (verbs.Sub rope start len) file sample f h = absurd (never h)
known_fits samples (verbs.Replace rope start len with) file sample f h = absurd (never h)
known_fits samples (verbs.Length rope) file sample f h = absurd (never h)
known_fits samples (verbs.Retain class key rope note) file sample f h = absurd (never h)
known_fits samples (verbs.Forget class key) file sample f h = absurd (never h)
known_fits samples (verbs.Lookup class key) file sample f h = absurd (never h)
known_fits samples (verbs.Census keys) file sample f h = absurd (never h)
known_fits samples (verbs.Advance moment) file sample f h = absurd (never h)
known_fits samples (verbs.Sweep limit) file sample f h = absurd (never h)
known_fits samples (verbs.Describe rope) file sample f h = absurd (never h)
known_fits samples (verbs.Queue lane rope start len) file sample f h = absurd (never h)
known_fits samples (verbs.Play lane rope start len) file sample f h = absurd (never h)
known_fits samples (verbs.Serve lane) file sample f h = absurd (never h)
known_fits samples (verbs.Stop lane) file sample f h = absurd (never h)
known_fits samples (verbs.Begin lane) file sample f h = absurd (never h)
known_fits samples (verbs.End lane) file sample f h = absurd (never h)
known_fits samples (verbs.Levels rope) file sample f h = absurd (never h)

pub known_stays : (known : VerbName → Bool) (samples : List (List ℕ)) (words : Rest) (s : Spoken) (b : Bool) (n : ℕ) → spoken_of known samples words ≡ Ok s → b ≡ is_known s.said.verb n → n ≡ length samples → b ≡ true →
    mention samples s.said.sample ≡ samples
known_stays known samples words s b n e is count h =
    known_fits samples s.said.verb s.said.file s.said.sample (spoken_found known samples words s e).is.fits (ap (λ m. is_known s.said.verb m) (sym count) ∙ sym is ∙ h)
