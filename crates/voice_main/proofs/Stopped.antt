-- Why a script is refused.
use Rattle.std.proofs.Common.{◌≡◌, ℕ, List, Some, None, Option, sym, subst}
use Rattle.std.specs.Prelude.{IfSome}
use Rattle.std.specs.FinMap.{get}
use Rattle.voice_outside.specs.Files.{Files}
use Rattle.script_lang.specs.declared.scripts.Cause.{Cause}
use Rattle.script_lang.specs.declared.scripts.ScriptError.{ScriptError}
use Rattle.script_lang.specs.declared.scripts.ScriptError.TheVariants as script
use Rattle.script_lang.specs.Verbs.{is_built_verb}
use Rattle.script_lang.specs.Causes.{FirstBad, ErrsAt}
use Rattle.script_lang.specs.Shown.{Reading}
use Rattle.script_lang.specs.Grammar.{IsScript}
use Rattle.voice_main.specs.Load.{AreFiles}
use Rattle.voice_main.specs.Ran.{IsReady}
use Rattle.voice_main.specs.RunPromise.{IsBadScript}
use Rattle.voice_main.specs.Statuses.{Stops, script_status_of}

bad_line : (told : Option Files) (name bytes : List ℕ) (n : ℕ) (cause : Cause) → IfSome told (λ files. get files name ≡ Some bytes) → FirstBad is_built_verb bytes n cause → IfSome told (λ files. IsBadScript files name n cause)
bad_line None name bytes n cause found bad = tt
bad_line (Some files) name bytes n cause found bad = record { bytes = bytes; found = found; bad = bad }

pub stops_bad : (told : Option Files) (shelf : Type 0) (name bytes : List ℕ) (e : ScriptError) → IfSome told (λ files. get files name ≡ Some bytes) → ErrsAt is_built_verb bytes e → Stops name told shelf (script_status_of e)
stops_bad told shelf name bytes (script.BadLine n cause) found bad = bad_line told name bytes n cause found bad
stops_bad told shelf name bytes script.NoMemory found bad = tt

ready_where : (told : Option Files) (script : Reading) (tapes : List (List ℕ)) (name bytes : List ℕ) → IfSome told (λ files. get files name ≡ Some bytes) → IsScript is_built_verb bytes script
    → IfSome told (λ files. AreFiles files script.samples tapes) → IfSome told (λ files. IsReady files name script tapes)
ready_where None script tapes name bytes found spelled there = tt
ready_where (Some files) script tapes name bytes found spelled there = record { bytes = bytes; found = found; spelled = spelled; samples = there }

-- all that a run wants is there
pub ready : (told later : Option Files) (script : Reading) (names tapes held : List (List ℕ)) (name bytes lent : List ℕ) → later ≡ told → IfSome told (λ files. get files name ≡ Some bytes) → lent ≡ bytes → IsScript is_built_verb lent script
    → names ≡ script.samples → tapes ≡ held → IfSome later (λ files. AreFiles files names held) → IfSome told (λ files. IsReady files name script tapes)
ready told later script names tapes held name bytes lent kept found same spelled named is there =
    let at_names : IfSome later (λ files. AreFiles files script.samples held) = subst (λ ns. IfSome later (λ files. AreFiles files ns held)) named there in
    let at_tapes : IfSome later (λ files. AreFiles files script.samples tapes) = subst (λ ts. IfSome later (λ files. AreFiles files script.samples ts)) (sym is) at_names in
    ready_where told script tapes name bytes found (subst (λ b. IsScript is_built_verb b script) same spelled) (subst (λ t. IfSome t (λ files. AreFiles files script.samples tapes)) kept at_tapes)
