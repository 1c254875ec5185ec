-- The verbs of the language.
--     verb_text v      the word of a verb
--     binds v      its reply sets a variable
--     is_built_verb v      the store can do its call yet
use Rattle.std.specs.Prelude.{ℕ, List, [], ◌∷◌, codes, Bool, true, false, Option}
use Rattle.std.specs.List.{find}
use Rattle.std.specs.Str.{bytes_eq}
use Rattle.script_lang.specs.declared.verbs.VerbName.{VerbName}
use Rattle.script_lang.specs.declared.verbs.VerbName.TheVariants as names
use Rattle.script_lang.specs.declared.verbs.Built.{Built}
use Rattle.script_lang.specs.declared.verbs.Built.TheVariants as built

abbrev pub verb_text : VerbName → List ℕ
verb_text names.Record = codes "record"
verb_text names.Concat = codes "concat"
verb_text names.Sub = codes "sub"
verb_text names.Replace = codes "replace"
verb_text names.Length = codes "length"
verb_text names.Retain = codes "retain"
verb_text names.Forget = codes "forget"
verb_text names.Lookup = codes "lookup"
verb_text names.Census = codes "census"
verb_text names.Advance = codes "advance"
verb_text names.Sweep = codes "sweep"
verb_text names.Describe = codes "describe"
verb_text names.Queue = codes "queue"
verb_text names.Play = codes "play"
verb_text names.Serve = codes "serve"
verb_text names.Stop = codes "stop"
verb_text names.Begin = codes "begin"
verb_text names.Add = codes "add"
verb_text names.End = codes "end"
verb_text names.Levels = codes "levels"

-- a verb's reply sets a variable
abbrev pub binds : VerbName → Bool
binds names.Record = true
binds names.Concat = true
binds names.Sub = true
binds names.Replace = true
binds names.Lookup = true
binds names.End = true
binds _ = false

-- the store can do the verb's call yet: when a call is built, its verb gets a line here and in `VerbName::is_built`
abbrev pub is_built_verb : VerbName → Bool
is_built_verb names.Record = true
is_built_verb names.Concat = true
is_built_verb names.Sub = true
is_built_verb names.Replace = true
is_built_verb names.Length = true
is_built_verb names.Describe = true
is_built_verb names.Levels = true
is_built_verb names.Queue = true
is_built_verb names.Play = true
is_built_verb names.Serve = true
is_built_verb names.Stop = true
is_built_verb names.Retain = true
is_built_verb names.Forget = true
is_built_verb names.Lookup = true
is_built_verb names.Census = true
is_built_verb names.Advance = true
is_built_verb names.Sweep = true
is_built_verb names.Begin = true
is_built_verb names.Add = true
is_built_verb names.End = true

-- the verbs that a script may have: those that are built, or all
unfoldable pub verbs_of : Built → VerbName → Bool
verbs_of built.Now v = is_built_verb v
verbs_of built.All v = true

abbrev pub all_verbs : List VerbName
all_verbs =
    names.Record ∷ names.Concat ∷ names.Sub ∷ names.Replace ∷ names.Length ∷ names.Retain ∷ names.Forget ∷ names.Lookup ∷ names.Census ∷ names.Advance ∷ names.Sweep ∷ names.Describe ∷ names.Queue ∷ names.Play ∷ names.Serve ∷ names.Stop ∷ names.Begin ∷ names.Add ∷ names.End ∷ names.Levels ∷ []

abbrev pub verb_named : List ℕ → Option VerbName
verb_named word = find (λ v. bytes_eq (verb_text v) word) all_verbs
