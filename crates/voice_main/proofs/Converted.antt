-- What a conversion comes to.
use Rattle.std.proofs.Common.{◌≡◌, ℕ, ◌≤◌, Bool, true, false, cond, List, Option, Some, None, refl, sym, ap, subst, ◌∙◌, arith}
use Rattle.std.specs.Prelude.{IfSome}
use Rattle.std.specs.FinMap.{get, insert, get-insert}
use Rattle.std.proofs.lemmas.Cmp.{nat_list_cmp_total}
use Rattle.std.proofs.lemmas.Map.Text.{is_eq-slice_cmp}
use Rattle.std.proofs.lemmas.Slice.Eq.{bytes_eq-Decides}
use Rattle.std.specs.Str.{bytes_eq}
use Rattle.au_files.specs.Au.{refusal, samples, file_of, ReadsBack}
use Rattle.voice_outside.specs.Files.{Files, SameElsewhere}
use Rattle.voice_outside.specs.Counters.{HasRisen}
use Rattle.voice_main.specs.declared.convert.Way.{Way}
use Rattle.voice_main.specs.declared.convert.Way.TheVariants as ways
use Rattle.voice_main.specs.declared.load.LoadError.{LoadError}
use Rattle.voice_main.specs.declared.load.LoadError.TheVariants as load
use Rattle.voice_main.specs.declared.status.Status.{Status}
use Rattle.voice_main.specs.declared.status.Status.TheVariants.{Done, Usage, BadShape, BadScript, NoFile, ShelfFault, SinkFault, BadDisk, DiskFault, NoMemory, BadAu, BadIndex, BadNote, TooManyKeys, BadPackets, JournalFull, InDoubt, EpochSpent}
use Rattle.voice_main.specs.Load.{LoadIs}
use Rattle.voice_main.specs.Statuses.{load_status_of}
use Rattle.voice_main.specs.Conversions.{IsMade, ConversionComes, BytesCome, PutComes, IsUnset}

-- ---- a file that is set

not_same : (name other : List ℕ) → ¬ (other ≡ name) → bytes_eq other name ≡ false
not_same name other apart = by (bytes_eq other name) refl
  where
    by : (b : Bool) → bytes_eq other name ≡ b → b ≡ false
    by true e = absurd (apart ((bytes_eq-Decides other name).0 e))
    by false e = refl

-- no other file is set
pub same_elsewhere : (files : Files) (name bytes : List ℕ) → SameElsewhere name files (insert files name bytes)
same_elsewhere files name bytes other apart =
    get-insert nat_list_cmp_total files name bytes other
    ∙ ap (λ b. cond b (Some bytes) (get files other)) (is_eq-slice_cmp other name ∙ not_same name other apart)

pub set_elsewhere : (told new : Option Files) (name bytes : List ℕ) → IfSome told (λ files. new ≡ Some (insert files name bytes)) → IfSome told (λ files. IfSome new (SameElsewhere name files))
set_elsewhere None new name bytes set = tt
set_elsewhere (Some files) new name bytes set = subst (λ o. IfSome o (SameElsewhere name files)) (sym set) (same_elsewhere files name bytes)

-- ---- the source

-- what a conversion of the source's bytes comes to is what it comes to
pub came : (way : Way) (source target bytes : List ℕ) (told mid new : Option Files) (shelf risen : Type 0) (status : Status) → IfSome told (λ files. get files source ≡ Some bytes) → mid ≡ told → (shelf → risen)
    → BytesCome way source target bytes mid new shelf status → ConversionComes way source target told new risen status
came way source target bytes None mid new shelf risen Done found kept rises h = tt
came way source target bytes (Some files) mid new shelf risen Done found kept rises h = record {
  bytes = bytes;
  found = found;
  out = h.0;
  made = h.1;
  changed = subst (λ o. IfSome o (λ files. new ≡ Some (insert files target h.0))) kept h.2;
}
came way source target bytes None mid new shelf risen (BadAu name cause) found kept rises h = tt
came way source target bytes (Some files) mid new shelf risen (BadAu name cause) found kept rises h = record { named = h.0; bytes = bytes; found = found; refused = h.1 }
came way source target bytes told mid new shelf risen ShelfFault found kept rises h = rises h
came way source target bytes told mid new shelf risen NoMemory found kept rises h = tt
came way source target bytes told mid new shelf risen Usage found kept rises h = absurd h
came way source target bytes told mid new shelf risen BadShape found kept rises h = absurd h
came way source target bytes told mid new shelf risen (BadScript n cause) found kept rises h = absurd h
came way source target bytes told mid new shelf risen (NoFile missing) found kept rises h = absurd h
came way source target bytes told mid new shelf risen SinkFault found kept rises h = absurd h
came way source target bytes told mid new shelf risen (BadDisk place) found kept rises h = absurd h
came way source target bytes told mid new shelf risen DiskFault found kept rises h = absurd h
came way source target bytes told mid new shelf risen (BadIndex line) found kept rises h = absurd h
came way source target bytes told mid new shelf risen (BadNote note place) found kept rises h = absurd h
came way source target bytes told mid new shelf risen (TooManyKeys count) found kept rises h = absurd h
came way source target bytes told mid new shelf risen (BadPackets place) found kept rises h = absurd h
came way source target bytes told mid new shelf risen (JournalFull need left) found kept rises h = absurd h
came way source target bytes told mid new shelf risen InDoubt found kept rises h = absurd h
came way source target bytes told mid new shelf risen EpochSpent found kept rises h = absurd h

-- the source was not read
pub unread : (way : Way) (source target : List ℕ) (told new : Option Files) (shelf : Type 0) (e : LoadError) → LoadIs (λ missing. (missing ≡ source) × IfSome told (λ files. get files source ≡ None)) shelf e → ConversionComes way source target told new shelf (load_status_of e)
unread way source target None new shelf (load.NoFile name) h = tt
unread way source target (Some files) new shelf (load.NoFile name) h = h
unread way source target told new shelf load.ShelfFault h = h
unread way source target told new shelf load.NoMemory h = tt

-- ---- what was made

pub put_made : (way : Way) (source target bytes out : List ℕ) (told new : Option Files) (shelf : Type 0) (status : Status) → IsMade way bytes out → (status ≡ Done → IfSome told (λ files. new ≡ Some (insert files target out))) → PutComes shelf status → BytesCome way source target bytes told new shelf status
put_made way source target bytes out told new shelf Done made set h = (out, made, set refl)
put_made way source target bytes out told new shelf ShelfFault made set h = h
put_made way source target bytes out told new shelf NoMemory made set h = tt
put_made way source target bytes out told new shelf Usage made set h = absurd h
put_made way source target bytes out told new shelf BadShape made set h = absurd h
put_made way source target bytes out told new shelf (BadScript n cause) made set h = absurd h
put_made way source target bytes out told new shelf (NoFile missing) made set h = absurd h
put_made way source target bytes out told new shelf SinkFault made set h = absurd h
put_made way source target bytes out told new shelf (BadDisk place) made set h = absurd h
put_made way source target bytes out told new shelf DiskFault made set h = absurd h
put_made way source target bytes out told new shelf (BadAu name cause) made set h = absurd h
put_made way source target bytes out told new shelf (BadIndex line) made set h = absurd h
put_made way source target bytes out told new shelf (BadNote note place) made set h = absurd h
put_made way source target bytes out told new shelf (TooManyKeys count) made set h = absurd h
put_made way source target bytes out told new shelf (BadPackets place) made set h = absurd h
put_made way source target bytes out told new shelf (JournalFull need left) made set h = absurd h
put_made way source target bytes out told new shelf InDoubt made set h = absurd h
put_made way source target bytes out told new shelf EpochSpent made set h = absurd h

-- setting a file is not refused
pub not_unset : (shelf : Type 0) (status : Status) → PutComes shelf status → IsUnset status → ⊥
not_unset shelf Done h unset = unset
not_unset shelf ShelfFault h unset = unset
not_unset shelf NoMemory h unset = unset
not_unset shelf Usage h unset = unset
not_unset shelf BadShape h unset = unset
not_unset shelf (BadScript n cause) h unset = unset
not_unset shelf (NoFile missing) h unset = h
not_unset shelf SinkFault h unset = unset
not_unset shelf (BadDisk place) h unset = unset
not_unset shelf DiskFault h unset = unset
not_unset shelf (BadAu name cause) h unset = h
not_unset shelf (BadIndex line) h unset = h
not_unset shelf (BadNote note place) h unset = h
not_unset shelf (TooManyKeys count) h unset = h
not_unset shelf (BadPackets place) h unset = h
not_unset shelf (JournalFull need left) h unset = h
not_unset shelf InDoubt h unset = h
not_unset shelf EpochSpent h unset = h

-- a file of samples is read back
pub exported : (bytes out : List ℕ) → ReadsBack → out ≡ file_of bytes → IsMade ways.Export bytes out
exported bytes out reads e = (e, ap refusal e ∙ reads.taken bytes, ap samples e ∙ reads.same bytes)

-- the files' faults rose since the source was read, or as the target was set
pub rose : (a b c : ℕ) → a ≤ b → HasRisen b c → HasRisen a c
rose a b c early later below = let risen = later below in omega (arith, early, risen)
