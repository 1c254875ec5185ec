-- What a line asks for, as the variables of its caller stand.
--     asked tapes verb variables      the call of a line with that verb, none where it only serves a lane
--     errand_of tapes line      a line as its caller's entries follow it
--     HasTape count verb      the tape that a line names, if it names one, is one of so many
--     HasFile verb file      a line that serves a lane names a file
--     HasItsRopes verb      a concat has 1 to 16 ropes
--     IsInItsRange verb      the key and the note of a retain and the moment of an advance are in their ranges
--     SameValues a b      each variable stands for the same rope in both
--     IsBuiltAlike name call      a verb that makes a call is built where its call is
--     IsAskedOf call      a caller may ask the call
use Rattle.std.specs.Prelude.{ℕ, List, ◌≡◌, ◌≤◌, ◌<◌, ◌^◌, true, IsTrue, Option, Some, None, map, length}
use Rattle.voice_model.specs.declared.calls.Call.{Call}
use Rattle.voice_model.specs.declared.calls.Call.TheVariants as calls
use Rattle.voice_model.specs.Spelling.{is_key}
use Rattle.voice_model.specs.Tapes.{whole_of}
use Rattle.voice_model.specs.Follows.{Binding, Errand, value_of}
use Rattle.voice_model.specs.Step.{is_asked_of}
use Rattle.built_calls.specs.Built.{is_built}
use Rattle.script_lang.specs.declared.scripts.Line.{Line}
use Rattle.script_lang.specs.declared.verbs.VerbName.{VerbName}
use Rattle.script_lang.specs.Verbs.{is_built_verb}
use Rattle.script_lang.specs.Parts.{served}
use Rattle.script_lang.specs.declared.scripts.RopeArg.{RopeArg}
use Rattle.script_lang.specs.declared.scripts.RopeArg.TheVariants as ropes
use Rattle.script_lang.specs.declared.scripts.Verb.{Verb}
use Rattle.script_lang.specs.declared.scripts.Verb.TheVariants as verbs

-- the rope that is meant, 0 where no reply set the variable
abbrev pub meant : List Binding → RopeArg → ℕ
meant variables (ropes.Id n) = n
meant variables (ropes.Var name) = value_of variables name

-- the call of a line with that verb, none where it only serves a lane
abbrev pub asked : List (List ℕ) → Verb → List Binding → Option Call
asked tapes (verbs.Record tape) b = Some (calls.Record (whole_of tapes tape))
asked tapes (verbs.Concat args) b = Some (calls.Concat (map (meant b) args))
asked tapes (verbs.Sub rope start len) b = Some (calls.Sub (meant b rope) start len)
asked tapes (verbs.Replace rope start len with) b = Some (calls.Replace (meant b rope) start len (meant b with))
asked tapes (verbs.Length rope) b = Some (calls.Length (meant b rope))
asked tapes (verbs.Retain class key rope note) b = Some (calls.Retain class key (meant b rope) note)
asked tapes (verbs.Forget class key) b = Some (calls.Forget class key)
asked tapes (verbs.Lookup class key) b = Some (calls.Lookup class key)
asked tapes (verbs.Census keys) b = Some (calls.Census keys)
asked tapes (verbs.Advance moment) b = Some (calls.Advance moment)
asked tapes (verbs.Sweep limit) b = Some (calls.Sweep limit)
asked tapes (verbs.Describe rope) b = Some (calls.Describe (meant b rope))
asked tapes (verbs.Queue lane rope start len) b = Some (calls.Play lane (meant b rope) start len)
asked tapes (verbs.Play lane rope start len) b = Some (calls.Play lane (meant b rope) start len)
asked tapes (verbs.Serve lane) b = None
asked tapes (verbs.Stop lane) b = Some (calls.Stop lane)
asked tapes (verbs.Begin lane) b = Some (calls.Begin lane)
asked tapes (verbs.Add lane tape) b = Some (calls.Add lane (whole_of tapes tape))
asked tapes (verbs.End lane) b = Some (calls.End lane)
asked tapes (verbs.Levels rope) b = Some (calls.Levels (meant b rope))

-- the tape that a line names, if it names one, is one of so many
abbrev pub HasTape : ℕ → Verb → Type 0
HasTape count (verbs.Record tape) = tape < count
HasTape count (verbs.Add lane tape) = tape < count
HasTape count _ = Unit {0}

-- a line that serves a lane names a file
abbrev pub HasFile : Verb → Option (List ℕ) → Type 0
HasFile (verbs.Play lane rope start len) file = (name : List ℕ) × (file ≡ Some name)
HasFile (verbs.Serve lane) file = (name : List ℕ) × (file ≡ Some name)
HasFile _ file = Unit {0}

-- a concat has 1 to 16 ropes
abbrev pub HasItsRopes : Verb → Type 0
HasItsRopes (verbs.Concat args) = (1 ≤ length args) × (length args ≤ 16)
HasItsRopes _ = Unit {0}

-- the key and the note of a retain and the moment of an advance are in their ranges
abbrev pub IsInItsRange : Verb → Type 0
IsInItsRange (verbs.Retain class key rope note) = (is_key key ≡ true) × (length note ≤ 128)
IsInItsRange (verbs.Advance moment) = moment ≤ 2 ^ 40
IsInItsRange _ = Unit {0}

-- a line as its caller's entries follow it
abbrev pub errand_of : List (List ℕ) → Line → Errand
errand_of tapes line = record { asks = asked tapes line.verb; binds = line.bind; serves = served line.verb }

-- each variable stands for the same rope in both
abbrev pub SameValues : List Binding → List Binding → Type 0
SameValues a b = (name : List ℕ) → value_of a name ≡ value_of b name

-- a verb that makes a call is built where its call is
abbrev pub IsBuiltAlike : VerbName → Option Call → Type 0
IsBuiltAlike name None = Unit {0}
IsBuiltAlike name (Some call) = is_built_verb name ≡ is_built call

-- a caller may ask the call
abbrev pub IsAskedOf : Option Call → Type 0
IsAskedOf None = Unit {0}
IsAskedOf (Some call) = IsTrue (is_asked_of call)
