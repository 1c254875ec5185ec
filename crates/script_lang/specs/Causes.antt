-- Why a line is not in the grammar, and which line is the first.
--     Breaks known cause n r line      that is wrong with line n, after the script r
--     IsCause known cause n r line      that is wrong, and nothing that comes before it in the order of causes
--     FirstBad known bytes k cause      line k of the bytes is the first that is not in the grammar, for that cause
use Rattle.std.specs.Prelude.{ℕ, List, [], ◌∷◌, ◌++◌, ◌≡◌, ◌≤◌, ◌<◌, ◌+◌, Bool, true, false, IsTrue, Option, Result, Ok, Err, drop, length}
use Rattle.std.specs.Fmt.{decimal}
use Rattle.script_lang.specs.declared.scripts.Cause.{Cause}
use Rattle.script_lang.specs.declared.scripts.Cause.TheVariants as causes
use Rattle.script_lang.specs.declared.scripts.ScriptError.{ScriptError}
use Rattle.script_lang.specs.declared.scripts.ScriptError.TheVariants as errors
use Rattle.script_lang.specs.declared.verbs.VerbName.{VerbName}
use Rattle.script_lang.specs.declared.phrases.Said.{Said}
use Rattle.script_lang.specs.declared.sentence.Spoken.{Spoken}
use Rattle.script_lang.specs.Words.{lines_of, words_of, is_plain}
use Rattle.script_lang.specs.Verbs.{verb_text}
use Rattle.script_lang.specs.Shown.{Reading}
use Rattle.script_lang.specs.Parts.{empty_script, served, is_taken, bind_at, binds_well}
use Rattle.script_lang.specs.Grammar.{Every, Fits, Makes, Spells, IsSpoken, arguments, verb_name, wording}

-- the words from the verb on, and what is bound before them
abbrev pub verb_words : List ℕ → List (List ℕ)
verb_words line = (bind_at (drop 1 (words_of line))).1

abbrev pub bind_word : List ℕ → Option (List ℕ)
bind_word line = (bind_at (drop 1 (words_of line))).0

-- what is wrong with line n, after the script r
abbrev pub Breaks : (VerbName → Bool) → Cause → ℕ → Reading → List ℕ → Type 0
Breaks known causes.Lines n r line = 65535 < n
Breaks known causes.Bytes n r line = Makes line × (is_plain line ≡ false)
Breaks known causes.Caller n r line = Makes line × ((c : ℕ) (rest : List (List ℕ)) → 1 ≤ c → c ≤ 16 → words_of line ≡ decimal c ∷ rest → ⊥)
Breaks known causes.Verb n r line = Makes line × ((v : VerbName) (rest : List (List ℕ)) → IsTrue (known v) → verb_words line ≡ verb_text v ∷ rest → ⊥)
Breaks known causes.Arguments n r line = Makes line × ((said : Said) → Fits r.samples said.verb said.file said.sample →
    verb_words line ≡ verb_text (verb_name said.verb) ∷ arguments said.verb said.file said.sample → ⊥)
Breaks known causes.Bind n r line = Makes line × ((v : VerbName) × (rest : List (List ℕ)) × (verb_words line ≡ verb_text v ∷ rest) × (binds_well v (bind_word line) ≡ false))
Breaks known causes.LaneTaken n r line = Makes line × ((spoken : Spoken) × (words_of line ≡ wording spoken) × IsSpoken known r.samples spoken × (is_taken r.lines spoken.caller (served spoken.said.verb) ≡ true))

abbrev pub before : Cause → List Cause
before causes.Lines = []
before causes.Bytes = causes.Lines ∷ []
before causes.Caller = causes.Lines ∷ causes.Bytes ∷ []
before causes.Verb = causes.Lines ∷ causes.Bytes ∷ causes.Caller ∷ []
before causes.Arguments = causes.Lines ∷ causes.Bytes ∷ causes.Caller ∷ causes.Verb ∷ []
before causes.Bind = causes.Lines ∷ causes.Bytes ∷ causes.Caller ∷ causes.Verb ∷ causes.Arguments ∷ []
before causes.LaneTaken = causes.Lines ∷ causes.Bytes ∷ causes.Caller ∷ causes.Verb ∷ causes.Arguments ∷ causes.Bind ∷ []

-- that is wrong, and nothing that comes before it in the order of causes
abbrev pub IsCause : (VerbName → Bool) → Cause → ℕ → Reading → List ℕ → Type 0
IsCause known cause n r line = Breaks known cause n r line × Every (λ c. Breaks known c n r line → ⊥) (before cause)

-- line k is the first that is not in the grammar, for that cause, where the lines go on from line n
pub record BreaksFirst (known : VerbName → Bool) (n : ℕ) (r : Reading) (lines : List (List ℕ)) (k : ℕ) (cause : Cause) : Type 0 where
  pub front : List (List ℕ)
  pub bad : List ℕ
  pub rest : List (List ℕ)
  pub so_far : Reading
  pub whole : lines ≡ front ++ bad ∷ rest
  pub spelled : Spells known n r front so_far
  pub number : k ≡ n + length front
  pub is : IsCause known cause k so_far bad

-- line k of the bytes is the first that is not in the grammar, for that cause
abbrev pub FirstBad : (VerbName → Bool) → List ℕ → ℕ → Cause → Type 0
FirstBad known bytes k cause = BreaksFirst known 1 empty_script (lines_of bytes) k cause

-- the error names that line and cause, or says that memory ran out
abbrev pub ErrsAt : (VerbName → Bool) → List ℕ → ScriptError → Type 0
ErrsAt known bytes (errors.BadLine k cause) = FirstBad known bytes k cause
ErrsAt known bytes errors.NoMemory = Unit {0}

-- that script was read, unless memory ran out
abbrev pub IsRead : Result Reading ScriptError → Reading → Type 0
IsRead (Ok r) m = r ≡ m
IsRead (Err (errors.BadLine k cause)) m = ⊥
IsRead (Err errors.NoMemory) m = Unit {0}

-- it was refused for that line and cause, unless memory ran out
abbrev pub StopsAt : Result Reading ScriptError → ℕ → Cause → Type 0
StopsAt (Ok r) k cause = ⊥
StopsAt (Err (errors.BadLine n c)) k cause = (n ≡ k) × (c ≡ cause)
StopsAt (Err errors.NoMemory) k cause = Unit {0}
