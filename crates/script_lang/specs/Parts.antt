-- The parts of a line, and what a script gains by it.
--     bind_at words      the word that is bound, and the words behind it
--     served verb      the lane that a verb serves
--     is_taken lines caller lane      another caller serves the lane in these lines
--     is_known verb count      the verb names a tape, and its number is below the count
--     with_line n r s      the script with line n, which says s
use Rattle.std.specs.Prelude.{ℕ, List, [], ◌∷◌, ◌++◌, ◌&&◌, ◌==◌, Bool, true, false, not, Option, Some, None, is_some, if◌then◌else◌, drop, slice_index_or, codes, max, nat_lt}
use Rattle.std.specs.List.{list_any}
use Rattle.std.specs.Str.{bytes_eq}
use Rattle.script_lang.specs.declared.scripts.Verb.{Verb}
use Rattle.script_lang.specs.declared.scripts.Verb.TheVariants as verbs
use Rattle.script_lang.specs.declared.scripts.Line.{Line}
use Rattle.script_lang.specs.declared.verbs.VerbName.{VerbName}
use Rattle.script_lang.specs.declared.sentence.Spoken.{Spoken}
use Rattle.script_lang.specs.Forms.{is_var}
use Rattle.script_lang.specs.Verbs.{binds}
use Rattle.script_lang.specs.Samples.{place_of}
use Rattle.script_lang.specs.Shown.{Reading}

-- the word to bind, where the one behind it is `=`, and what comes behind
abbrev pub is_bound : List (List ℕ) → Bool
is_bound [] = false
is_bound (word ∷ []) = false
is_bound (word ∷ (sign ∷ words)) = bytes_eq sign (codes "=")

unfoldable pub bind_at : List (List ℕ) → Option (List ℕ) × List (List ℕ)
bind_at words = if is_bound words then (Some (slice_index_or words 0 []), drop 2 words) else (None, words)

-- nothing is bound, or a variable by a verb that binds
abbrev pub binds_well : VerbName → Option (List ℕ) → Bool
binds_well name None = true
binds_well name (Some word) = is_var word && binds name

-- the lane that a verb serves
abbrev pub served : Verb → Option ℕ
served (verbs.Play lane rope start len) = Some lane
served (verbs.Serve lane) = Some lane
served _ = None

-- the line serves that lane for another caller
abbrev pub is_other : Option ℕ → ℕ → ℕ → ℕ → Bool
is_other None lane owner caller = false
is_other (Some served) lane owner caller = (served == lane) && not (owner == caller)

abbrev pub serves : ℕ → ℕ → Line → Bool
serves caller lane line = is_other (served line.verb) lane line.caller caller

-- another caller serves that lane in these lines
abbrev pub is_taken : List Line → ℕ → Option ℕ → Bool
is_taken lines caller None = false
is_taken lines caller (Some lane) = list_any (serves caller lane) lines

-- the verb names a tape, and its number is below the count
abbrev pub is_known : Verb → ℕ → Bool
is_known (verbs.Record tape) count = nat_lt tape count
is_known (verbs.Add lane tape) count = nat_lt tape count
is_known _ count = false

-- the sample files with one more, if it is new
abbrev pub mention : List (List ℕ) → Option (List ℕ) → List (List ℕ)
mention samples None = samples
mention samples (Some name) = if is_some (place_of samples name) then samples else samples ++ name ∷ []

abbrev pub line_of : ℕ → Spoken → Line
line_of n s = record { number = n; caller = s.caller; bind = s.bind; verb = s.said.verb; file = s.said.file }

abbrev pub with_line : ℕ → Reading → Spoken → Reading
with_line n r s = record { lines = r.lines ++ line_of n s ∷ []; samples = mention r.samples s.said.sample; callers = max r.callers s.caller }

-- a script without a line
abbrev pub empty_script : Reading
empty_script = record { lines = []; samples = []; callers = 1 }
