-- What `import AU FILE` and `export FILE AU` answer and leave.
--     IsSound way bytes      a conversion makes something of these bytes
--     ConversionExact      each cause gives its status, but for faults and want of memory
--     ConversionComplete      where the source is there and sound and no count rose, the conversion is done, or memory was wanted
--     ConversionPromise way source target old new status history      all of it
use Rattle.std.specs.Prelude.{ℕ, List, [], ◌≡◌, ◌⊎◌, Some, None, IfSome}
use Rattle.std.specs.FinMap.{get}
use Rattle.au_files.specs.Au.{refusal}
use Rattle.au_files.specs.declared.AuError.{AuError}
use Rattle.voice_model.specs.declared.calls.Entry.{Entry}
use Rattle.voice_outside.specs.Files.{Files, SameElsewhere}
use Rattle.voice_main.specs.declared.convert.Way.{Way}
use Rattle.voice_main.specs.declared.convert.Way.TheVariants as ways
use Rattle.voice_main.specs.declared.status.Status.{Status}
use Rattle.voice_main.specs.declared.status.Status.TheVariants.{Done, NoFile, NoMemory, BadAu}
use Rattle.voice_main.specs.Outside.{Outside, ShelfFaulted}
use Rattle.voice_main.specs.FormatPromise.{IsLeft}
use Rattle.voice_main.specs.RunPromise.{IsOr}
use Rattle.voice_main.specs.Conversions.{IsBadAu, ConversionComes, IsUnset}

-- an AU file that is not refused, or any samples
abbrev pub IsSound : Way → List ℕ → Type 0
IsSound ways.Import bytes = refusal bytes ≡ None
IsSound ways.Export bytes = Unit {0}

-- what the files decide comes, but for faults and want of memory
pub record ConversionExact (way : Way) (files : Files) (source : List ℕ) (status : Status) : Type 0 where
  pub bad_au : (name : List ℕ) (cause : AuError) → IsBadAu way files source name cause → IsOr (BadAu name cause) status
  pub no_file : get files source ≡ None → IsOr (NoFile source) status

-- where the source is there and sound and no count rose, the conversion is done, or memory was wanted
abbrev pub ConversionComplete : Way → Files → List ℕ → Outside → Outside → Status → Type 0
ConversionComplete way files source old new status =
    (bytes : List ℕ) → get files source ≡ Some bytes → IsSound way bytes → (ShelfFaulted old new → ⊥) → (status ≡ Done) ⊎ (status ≡ NoMemory)

pub record ConversionPromise (way : Way) (source target : List ℕ) (old new : Outside) (status : Status) (history : List Entry) : Type 0 where
  pub comes : ConversionComes way source target old.files new.files (ShelfFaulted old new) status
  pub exact : IfSome old.files (λ files. ConversionExact way files source status)
  pub complete : IfSome old.files (λ files. ConversionComplete way files source old new status)
  -- no other file changes, whatever the status is, and before the target is set none does
  pub elsewhere : IfSome old.files (λ files. IfSome new.files (SameElsewhere target files))
  pub unset : IsUnset status → new.files ≡ old.files
  -- it makes no call, prints nothing, and touches no disk
  pub silent : history ≡ []
  pub quiet : new.contents ≡ old.contents
  pub disk : IsLeft old.disk new.disk
