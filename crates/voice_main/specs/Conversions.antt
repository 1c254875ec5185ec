-- Conversions of files between AU files and samples.
--     way_word way      the word that asks for it
--     IsMade way bytes out      what a conversion makes of a file's bytes
--     IsBadAu way files source name cause      the source is an AU file that is refused for that cause
--     IsConverted way files source target new      what a conversion leaves of the files
--     ConversionComes way source target old new shelf status      when each status comes
use Rattle.std.specs.Prelude.{ℕ, List, ◌≡◌, Option, Some, None, IfSome, codes}
use Rattle.std.specs.FinMap.{get, insert}
use Rattle.voice_outside.specs.Files.{Files}
use Rattle.au_files.specs.Au.{refusal, samples, file_of}
use Rattle.au_files.specs.declared.AuError.{AuError}
use Rattle.voice_main.specs.declared.convert.Way.{Way}
use Rattle.voice_main.specs.declared.convert.Way.TheVariants as ways
use Rattle.voice_main.specs.declared.status.Status.{Status}
use Rattle.voice_main.specs.declared.status.Status.TheVariants.{Done, NoFile, ShelfFault, NoMemory, BadAu}

-- the word that asks for it
abbrev pub way_word : Way → List ℕ
way_word ways.Import = codes "import"
way_word ways.Export = codes "export"

-- what a conversion makes of a file's bytes: the samples of an AU file; or an AU file, and reading it gives these bytes
abbrev pub IsMade : Way → List ℕ → List ℕ → Type 0
IsMade ways.Import bytes out = (refusal bytes ≡ None) × (out ≡ samples bytes)
IsMade ways.Export bytes out = (out ≡ file_of bytes) × (refusal out ≡ None) × (samples out ≡ bytes)

-- the bytes are no AU file of the profile, where one is read, for that cause
abbrev pub IsRefusedFor : Way → List ℕ → AuError → Type 0
IsRefusedFor ways.Import bytes cause = refusal bytes ≡ Some cause
IsRefusedFor ways.Export bytes cause = ⊥

-- the source, of that name, is refused for that cause
pub record IsBadAu (way : Way) (files : Files) (source name : List ℕ) (cause : AuError) : Type 0 where
  pub named : name ≡ source
  pub bytes : List ℕ
  pub found : get files source ≡ Some bytes
  pub refused : IsRefusedFor way bytes cause

-- the files changed in the target alone, which is what was made of the source
pub record IsConverted (way : Way) (files : Files) (source target : List ℕ) (new : Option Files) : Type 0 where
  pub bytes : List ℕ
  pub found : get files source ≡ Some bytes
  pub out : List ℕ
  pub made : IsMade way bytes out
  pub changed : new ≡ Some (insert files target out)

-- when each status comes
abbrev pub ConversionComes : Way → List ℕ → List ℕ → Option Files → Option Files → Type 0 → Status → Type 0
ConversionComes way source target old new shelf Done = IfSome old (λ files. IsConverted way files source target new)
ConversionComes way source target old new shelf (BadAu name cause) = IfSome old (λ files. IsBadAu way files source name cause)
ConversionComes way source target old new shelf (NoFile missing) = IfSome old (λ files. (missing ≡ source) × (get files source ≡ None))
ConversionComes way source target old new shelf ShelfFault = shelf
ConversionComes way source target old new shelf NoMemory = Unit {0}
ConversionComes way source target old new shelf _ = ⊥

-- the same, of the bytes of the source
abbrev pub BytesCome : Way → List ℕ → List ℕ → List ℕ → Option Files → Option Files → Type 0 → Status → Type 0
BytesCome way source target bytes old new shelf Done = (out : List ℕ) × IsMade way bytes out × IfSome old (λ files. new ≡ Some (insert files target out))
BytesCome way source target bytes old new shelf (BadAu name cause) = (name ≡ source) × IsRefusedFor way bytes cause
BytesCome way source target bytes old new shelf ShelfFault = shelf
BytesCome way source target bytes old new shelf NoMemory = Unit {0}
BytesCome way source target bytes old new shelf _ = ⊥

-- the statuses of setting a file
abbrev pub PutComes : Type 0 → Status → Type 0
PutComes shelf Done = Unit {0}
PutComes shelf ShelfFault = shelf
PutComes shelf NoMemory = Unit {0}
PutComes shelf _ = ⊥

-- the statuses that are decided before a file is set
abbrev pub IsUnset : Status → Type 0
IsUnset (BadAu name cause) = Unit {0}
IsUnset (NoFile name) = Unit {0}
IsUnset _ = ⊥
