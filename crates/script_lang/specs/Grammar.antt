-- The grammar of a script: what its lines spell.
--     arguments verb file sample      the words behind a verb
--     Fits samples verb file sample      what they may be
--     wording s      the words of a line that makes a call
--     IsScript known bytes m      the bytes spell the script m, where a script may have the verbs of `known`
use Rattle.std.specs.Prelude.{ℕ, List, [], ◌∷◌, ◌++◌, ◌≡◌, ◌≤◌, ◌<◌, ◌+◌, ◌^◌, ◌⊎◌, Bool, true, false, IsTrue, Option, Some, None, unwrap_or, length, slice_index, codes, map}
use Rattle.std.specs.Fmt.{decimal}
use Rattle.script_lang.specs.declared.scripts.RopeArg.{RopeArg}
use Rattle.script_lang.specs.declared.scripts.RopeArg.TheVariants as ropes
use Rattle.script_lang.specs.declared.scripts.Verb.{Verb}
use Rattle.script_lang.specs.declared.scripts.Verb.TheVariants as verbs
use Rattle.script_lang.specs.declared.verbs.VerbName.{VerbName}
use Rattle.script_lang.specs.declared.verbs.VerbName.TheVariants as names
use Rattle.voice_model.specs.declared.calls.Class.{Class}
use Rattle.voice_model.specs.declared.calls.Class.TheVariants as classes
use Rattle.voice_model.specs.Text.{note_text}
use Rattle.script_lang.specs.declared.sentence.Spoken.{Spoken}
use Rattle.script_lang.specs.Forms.{is_var, is_key, is_file}
use Rattle.script_lang.specs.Samples.{tape_of}
use Rattle.script_lang.specs.Verbs.{verb_text, binds}
use Rattle.script_lang.specs.Shown.{Reading}
use Rattle.script_lang.specs.Parts.{empty_script, with_line, served, is_taken}
use Rattle.script_lang.specs.Words.{lines_of, words_of, are_quiet, is_plain}

abbrev pub rope_text : RopeArg → List ℕ
rope_text (ropes.Id n) = decimal n
rope_text (ropes.Var name) = name

abbrev pub IsRope : RopeArg → Type 0
IsRope (ropes.Id n) = n ≤ 2 ^ 48
IsRope (ropes.Var name) = IsTrue (is_var name)

abbrev pub class_text : Class → List ℕ
class_text classes.Held = codes "held"
class_text classes.Until = codes "until"
class_text classes.Listed = codes "listed"

-- a name, none as no byte
abbrev pub or_none : Option (List ℕ) → List ℕ
or_none name = unwrap_or name []

abbrev pub IsGiven : (List ℕ → Bool) → Option (List ℕ) → Type 0
IsGiven test None = ⊥
IsGiven test (Some name) = IsTrue (test name)

-- a sample file is given, and that tape is its place among the samples, or the next one
abbrev pub IsSample : List (List ℕ) → ℕ → Option (List ℕ) → Type 0
IsSample samples tape None = ⊥
IsSample samples tape (Some name) = IsTrue (is_file name) × (tape ≡ tape_of samples name)

abbrev pub Every : {X : Type 0} → (X → Type 0) → List X → Type 0
Every P [] = Unit {0}
Every P (x ∷ xs) = P x × Every P xs

-- a note has at most 128 bytes
abbrev pub IsNote : List ℕ → Type 0
IsNote note = (length note ≤ 128) × ((i : ℕ) → slice_index note i < 256)

-- START and LEN
abbrev pub IsCount : ℕ → Type 0
IsCount n = n ≤ 4294967295

abbrev pub verb_name : Verb → VerbName
verb_name (verbs.Record tape) = names.Record
verb_name (verbs.Concat args) = names.Concat
verb_name (verbs.Sub rope start len) = names.Sub
verb_name (verbs.Replace rope start len with) = names.Replace
verb_name (verbs.Length rope) = names.Length
verb_name (verbs.Retain class key rope note) = names.Retain
verb_name (verbs.Forget class key) = names.Forget
verb_name (verbs.Lookup class key) = names.Lookup
verb_name (verbs.Census keys) = names.Census
verb_name (verbs.Advance moment) = names.Advance
verb_name (verbs.Sweep limit) = names.Sweep
verb_name (verbs.Describe rope) = names.Describe
verb_name (verbs.Queue lane rope start len) = names.Queue
verb_name (verbs.Play lane rope start len) = names.Play
verb_name (verbs.Serve lane) = names.Serve
verb_name (verbs.Stop lane) = names.Stop
verb_name (verbs.Begin lane) = names.Begin
verb_name (verbs.Add lane tape) = names.Add
verb_name (verbs.End lane) = names.End
verb_name (verbs.Levels rope) = names.Levels

-- the words behind the verb, with the file of a play and a sample file
abbrev pub arguments : Verb → Option (List ℕ) → Option (List ℕ) → List (List ℕ)
arguments (verbs.Record tape) file sample = or_none sample ∷ []
arguments (verbs.Concat args) file sample = map rope_text args
arguments (verbs.Sub rope start len) file sample = rope_text rope ∷ decimal start ∷ decimal len ∷ []
arguments (verbs.Replace rope start len with) file sample = rope_text rope ∷ decimal start ∷ decimal len ∷ rope_text with ∷ []
arguments (verbs.Length rope) file sample = rope_text rope ∷ []
arguments (verbs.Retain class key rope note) file sample = class_text class ∷ key ∷ rope_text rope ∷ note_text note ∷ []
arguments (verbs.Forget class key) file sample = class_text class ∷ key ∷ []
arguments (verbs.Lookup class key) file sample = class_text class ∷ key ∷ []
arguments (verbs.Census keys) file sample = keys
arguments (verbs.Advance moment) file sample = decimal moment ∷ []
arguments (verbs.Sweep limit) file sample = decimal limit ∷ []
arguments (verbs.Describe rope) file sample = rope_text rope ∷ []
arguments (verbs.Queue lane rope start len) file sample = decimal lane ∷ rope_text rope ∷ decimal start ∷ decimal len ∷ []
arguments (verbs.Play lane rope start len) file sample = decimal lane ∷ rope_text rope ∷ decimal start ∷ decimal len ∷ or_none file ∷ []
arguments (verbs.Serve lane) file sample = decimal lane ∷ or_none file ∷ []
arguments (verbs.Stop lane) file sample = decimal lane ∷ []
arguments (verbs.Begin lane) file sample = decimal lane ∷ []
arguments (verbs.Add lane tape) file sample = decimal lane ∷ or_none sample ∷ []
arguments (verbs.End lane) file sample = decimal lane ∷ []
arguments (verbs.Levels rope) file sample = rope_text rope ∷ []

-- what the words may be; the tape of a sample file is its place among the samples, or the next one
abbrev pub Fits : List (List ℕ) → Verb → Option (List ℕ) → Option (List ℕ) → Type 0
Fits samples (verbs.Record tape) file sample = (file ≡ None) × IsSample samples tape sample
Fits samples (verbs.Concat args) file sample = (file ≡ None) × (sample ≡ None) × (0 < length args) × (length args ≤ 16) × Every IsRope args
Fits samples (verbs.Sub rope start len) file sample = (file ≡ None) × (sample ≡ None) × IsRope rope × IsCount start × IsCount len
Fits samples (verbs.Replace rope start len with) file sample = (file ≡ None) × (sample ≡ None) × IsRope rope × IsCount start × IsCount len × IsRope with
Fits samples (verbs.Length rope) file sample = (file ≡ None) × (sample ≡ None) × IsRope rope
Fits samples (verbs.Retain class key rope note) file sample = (file ≡ None) × (sample ≡ None) × IsTrue (is_key key) × IsRope rope × IsNote note
Fits samples (verbs.Forget class key) file sample = (file ≡ None) × (sample ≡ None) × IsTrue (is_key key)
Fits samples (verbs.Lookup class key) file sample = (file ≡ None) × (sample ≡ None) × IsTrue (is_key key)
Fits samples (verbs.Census keys) file sample = (file ≡ None) × (sample ≡ None) × (length keys ≤ 1024) × Every (λ key. IsTrue (is_key key)) keys
Fits samples (verbs.Advance moment) file sample = (file ≡ None) × (sample ≡ None) × (moment ≤ 2 ^ 40)
Fits samples (verbs.Sweep limit) file sample = (file ≡ None) × (sample ≡ None) × (limit ≤ 65535)
Fits samples (verbs.Describe rope) file sample = (file ≡ None) × (sample ≡ None) × IsRope rope
Fits samples (verbs.Queue lane rope start len) file sample = (file ≡ None) × (sample ≡ None) × (lane ≤ 15) × IsRope rope × IsCount start × IsCount len
Fits samples (verbs.Play lane rope start len) file sample = IsGiven is_file file × (sample ≡ None) × (lane ≤ 15) × IsRope rope × IsCount start × IsCount len
Fits samples (verbs.Serve lane) file sample = IsGiven is_file file × (sample ≡ None) × (lane ≤ 15)
Fits samples (verbs.Stop lane) file sample = (file ≡ None) × (sample ≡ None) × (lane ≤ 15)
Fits samples (verbs.Begin lane) file sample = (file ≡ None) × (sample ≡ None) × (lane ≤ 15)
Fits samples (verbs.Add lane tape) file sample = (file ≡ None) × IsSample samples tape sample × (lane ≤ 15)
Fits samples (verbs.End lane) file sample = (file ≡ None) × (sample ≡ None) × (lane ≤ 15)
Fits samples (verbs.Levels rope) file sample = (file ≡ None) × (sample ≡ None) × IsRope rope

-- a line that makes a call, as its words say it
abbrev pub bind_words : Option (List ℕ) → List (List ℕ)
bind_words None = []
bind_words (Some name) = name ∷ codes "=" ∷ []

abbrev pub wording : Spoken → List (List ℕ)
wording s = decimal s.caller ∷ bind_words s.bind ++ verb_text (verb_name s.said.verb) ∷ arguments s.said.verb s.said.file s.said.sample

abbrev pub IsBound : Verb → Option (List ℕ) → Type 0
IsBound verb None = Unit {0}
IsBound verb (Some name) = IsTrue (is_var name) × IsTrue (binds (verb_name verb))

pub record IsSpoken (known : VerbName → Bool) (samples : List (List ℕ)) (s : Spoken) : Type 0 where
  pub least : 1 ≤ s.caller
  pub most : s.caller ≤ 16
  pub taken : IsTrue (known (verb_name s.said.verb))
  pub fits : Fits samples s.said.verb s.said.file s.said.sample
  pub bind : IsBound s.said.verb s.bind

-- the line makes a call
abbrev pub Makes : List ℕ → Type 0
Makes line = are_quiet (words_of line) ≡ false

-- line n, after the script r, says something
pub record AddsCall (known : VerbName → Bool) (n : ℕ) (r : Reading) (line : List ℕ) (m : Reading) : Type 0 where
  pub makes : Makes line
  pub plain : IsTrue (is_plain line)
  pub spoken : Spoken
  pub words : words_of line ≡ wording spoken
  pub fits : IsSpoken known r.samples spoken
  pub free : is_taken r.lines spoken.caller (served spoken.said.verb) ≡ false
  pub grown : m ≡ with_line n r spoken

-- line n, after the script r, makes no call or says something, and m is the script with it
abbrev pub Adds : (VerbName → Bool) → ℕ → Reading → List ℕ → Reading → Type 0
Adds known n r line m = (n ≤ 65535) × (((are_quiet (words_of line) ≡ true) × (r ≡ m)) ⊎ AddsCall known n r line m)

-- m is the script with these lines, from line n on
abbrev pub Spells : (VerbName → Bool) → ℕ → Reading → List (List ℕ) → Reading → Type 0
Spells known n r [] m = r ≡ m
Spells known n r (line ∷ lines) m = (q : Reading) × Adds known n r line q × Spells known (n + 1) q lines m

-- the bytes spell the script m, where a script may have the verbs of `known`
abbrev pub IsScript : (VerbName → Bool) → List ℕ → Reading → Type 0
IsScript known bytes m = Spells known 1 empty_script (lines_of bytes) m
