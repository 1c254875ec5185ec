-- Reading a script, line by line.
use Rattle.std.specs.Prelude.{ℕ, List, [], ◌∷◌, ◌≡◌, ◌+◌, Bool, true, false, nat_lt, Option, Some, None, option_and_then, if◌then◌else◌, Result, Ok, Err, not}
use denote.Ref.{Bor}
use Rattle.script_lang.specs.declared.scripts.Cause.{Cause}
use Rattle.script_lang.specs.declared.scripts.Cause.TheVariants as causes
use Rattle.script_lang.specs.declared.scripts.ScriptError.{ScriptError}
use Rattle.script_lang.specs.declared.scripts.ScriptError.TheVariants as errors
use Rattle.script_lang.specs.declared.verbs.VerbName.{VerbName}
use Rattle.script_lang.specs.declared.arguments.Unread.{Unread}
use Rattle.script_lang.specs.declared.arguments.Unread.TheVariants as unread
use Rattle.script_lang.specs.declared.sentence.Spoken.{Spoken}
use Rattle.script_lang.specs.declared.sentence.Refusal.{Refusal}
use Rattle.script_lang.specs.declared.sentence.Refusal.TheVariants as refusals
use Rattle.script_lang.specs.Verbs.{verb_named}
use Rattle.script_lang.specs.Words.{words_of, are_quiet, is_plain}
use Rattle.script_lang.specs.Numbers.{number_at_most}
use Rattle.script_lang.specs.Arguments.{Rest, next, said_of}
use Rattle.script_lang.specs.Shown.{Reading}
use Rattle.script_lang.specs.Parts.{bind_at, binds_well, served, is_taken, with_line}

infixl 10 ◌>>=◌
abbrev pub ◌>>=◌ : {A B : Type 0} → Result A Cause → (A → Result B Cause) → Result B Cause
(Ok x) >>= f = f x
(Err e) >>= f = Err e

-- what was read, or else that cause
abbrev pub or_cause : {A : Type 0} → Cause → Option A → Result A Cause
or_cause cause None = Err cause
or_cause cause (Some x) = Ok x

-- what a function returned is what reading gives, unless memory ran out
abbrev pub Speaks : {X : Type 0} → Result X Refusal → Result X Cause → Type 0
Speaks (Ok x) read = read ≡ Ok x
Speaks (Err (refusals.Bad cause)) read = read ≡ Err cause
Speaks (Err refusals.NoMemory) read = Unit {0}

abbrev pub as_cause : Unread → Cause → Refusal
as_cause unread.Arguments cause = refusals.Bad cause
as_cause unread.NoMemory cause = refusals.NoMemory

-- what was added is what reading gives, unless memory ran out
abbrev pub Adds : Result (Unit {0}) Refusal → Result Reading Cause → Reading → Type 0
Adds (Ok u) read new = read ≡ Ok new
Adds (Err (refusals.Bad cause)) read new = read ≡ Err cause
Adds (Err refusals.NoMemory) read new = Unit {0}

unfoldable pub caller_of : List ℕ → Option ℕ
caller_of word = option_and_then (λ n. if nat_lt 0 n then Some n else None) (number_at_most 16 word)

unfoldable pub caller_at : Rest → Option (ℕ × Rest)
caller_at words = option_and_then (λ w. option_and_then (λ n. Some (n, w.1)) (caller_of w.0)) (next words)

-- the verb that a word names, where it is known
unfoldable pub verb_of : (VerbName → Bool) → List ℕ → Option VerbName
verb_of known word = option_and_then (λ v. if known v then Some v else None) (verb_named word)

unfoldable pub name_at : (VerbName → Bool) → Rest → Option (VerbName × Rest)
name_at known words = option_and_then (λ w. option_and_then (λ v. Some (v, w.1)) (verb_of known w.0)) (next words)

abbrev pub now_of : Option (Bor (List ℕ)) → Option (List ℕ)
now_of None = None
now_of (Some word) = Some word.now

-- what is bound, as the words say it, unless memory ran out
abbrev pub Binds : Result (Option (List ℕ)) Refusal → VerbName → Option (List ℕ) → Type 0
Binds (Ok bind) name word = (binds_well name word ≡ true) × (bind ≡ word)
Binds (Err (refusals.Bad cause)) name word = (binds_well name word ≡ false) × (cause ≡ causes.Bind)
Binds (Err refusals.NoMemory) name word = Unit {0}

abbrev pub guard : Bool → Cause → Result (Unit {0}) Cause
guard true cause = Ok tt
guard false cause = Err cause

unfoldable pub spoken_of : (VerbName → Bool) → List (List ℕ) → Rest → Result Spoken Cause
spoken_of known samples words = do
  caller ← or_cause causes.Caller (caller_at words)
  name ← or_cause causes.Verb (name_at known (bind_at caller.1).1)
  said ← or_cause causes.Arguments (said_of samples name.0 name.1)
  well ← guard (binds_well name.0 (bind_at caller.1).0) causes.Bind
  Ok (record { caller = caller.0; bind = (bind_at caller.1).0; said = said })

unfoldable pub line_read : (VerbName → Bool) → ℕ → Reading → List ℕ → Result Reading Cause
line_read known n r line = do
  spoken ← spoken_of known r.samples (words_of line)
  free ← guard (not (is_taken r.lines spoken.caller (served spoken.said.verb))) causes.LaneTaken
  Ok (with_line n r spoken)

-- the script with line n
unfoldable pub step : (VerbName → Bool) → ℕ → Reading → List ℕ → Result Reading Cause
step known n r line =
    if nat_lt 65535 n then Err causes.Lines
    else (if are_quiet (words_of line) then Ok r
    else (if is_plain line then line_read known n r line
    else Err causes.Bytes))

abbrev pub at_line : ℕ → Result Reading Cause → (Reading → Result Reading (ℕ × Cause)) → Result Reading (ℕ × Cause)
at_line n (Ok r) f = f r
at_line n (Err cause) f = Err (n, cause)

-- the script with these lines, from line n on
abbrev pub read_lines : (VerbName → Bool) → ℕ → Reading → List (List ℕ) → Result Reading (ℕ × Cause)
read_lines known n r [] = Ok r
read_lines known n r (line ∷ lines) = at_line n (step known n r line) (λ m. read_lines known (n + 1) m lines)

abbrev pub BadLineIs : ScriptError → Result Reading (ℕ × Cause) → Type 0
BadLineIs (errors.BadLine n cause) read = read ≡ Err (n, cause)
BadLineIs errors.NoMemory read = Unit {0}

abbrev pub Parses : Result Reading ScriptError → Result Reading (ℕ × Cause) → Type 0
Parses (Ok r) read = read ≡ Ok r
Parses (Err e) read = BadLineIs e read
