-- What the files decide of a conversion.
use Rattle.std.proofs.Common.{◌≡◌, ℕ, ◌⊎◌, inl, inr, List, [], Option, Some, None, refl, sym, ap, ◌∙◌}
use Rattle.std.specs.Prelude.{IfSome}
use Rattle.std.specs.FinMap.{get}
use Rattle.au_files.specs.Au.{refusal}
use Rattle.au_files.specs.declared.AuError.{AuError}
use Rattle.voice_outside.specs.Files.{Files, SameElsewhere}
use Rattle.voice_model.specs.declared.calls.Entry.{Entry}
use Rattle.voice_main.specs.declared.convert.Way.{Way}
use Rattle.voice_main.specs.declared.convert.Way.TheVariants as ways
use Rattle.voice_main.specs.declared.status.Status.{Status}
use Rattle.voice_main.specs.declared.status.Status.TheVariants.{Done, Usage, BadShape, BadScript, NoFile, ShelfFault, SinkFault, BadDisk, DiskFault, NoMemory, BadAu, BadIndex, BadNote, TooManyKeys, BadPackets, JournalFull, InDoubt, EpochSpent}
use Rattle.voice_main.specs.Outside.{Outside, ShelfFaulted}
use Rattle.voice_main.specs.FormatPromise.{IsLeft}
use Rattle.voice_main.specs.RunPromise.{IsOr}
use Rattle.voice_main.specs.Conversions.{IsMade, IsRefusedFor, IsBadAu, ConversionComes, IsUnset}
use Rattle.voice_main.specs.ConversionPromise.{IsSound, ConversionExact, ConversionComplete, ConversionPromise}

-- bytes are not both made something of and refused
not_both : (way : Way) (bytes others out : List ℕ) (cause : AuError) → bytes ≡ others → IsMade way bytes out → IsRefusedFor way others cause → ⊥
not_both ways.Import bytes others out cause same made refused = let e : Some cause ≡ None = sym refused ∙ sym (ap refusal same) ∙ made.0 in cc
not_both ways.Export bytes others out cause same made refused = refused

same_cause : (way : Way) (bytes others : List ℕ) (c d : AuError) → bytes ≡ others → IsRefusedFor way bytes c → IsRefusedFor way others d → c ≡ d
same_cause ways.Import bytes others c d same p q = let e : Some c ≡ Some d = sym p ∙ ap refusal same ∙ q in cc
same_cause ways.Export bytes others c d same p q = absurd p

same_file : (files : Files) (name a b : List ℕ) → get files name ≡ Some a → get files name ≡ Some b → a ≡ b
same_file files name a b p q = let e : Some a ≡ Some b = sym p ∙ q in cc

there : (files : Files) (name a : List ℕ) → get files name ≡ Some a → get files name ≡ None → ⊥
there files name a p q = let e : Some a ≡ None = sym p ∙ q in cc

bad_or : (way : Way) (files : Files) (source target : List ℕ) (new : Option Files) (shelf : Type 0) (status : Status) (name : List ℕ) (cause : AuError) → ConversionComes way source target (Some files) new shelf status → IsBadAu way files source name cause → IsOr (BadAu name cause) status
bad_or way files source target new shelf Done name cause h bad = absurd (not_both way h.bytes bad.bytes h.out cause (same_file files source h.bytes bad.bytes h.found bad.found) h.made bad.refused)
bad_or way files source target new shelf (BadAu other reason) name cause h bad =
    let same = same_cause way h.bytes bad.bytes reason cause (same_file files source h.bytes bad.bytes h.found bad.found) h.refused bad.refused in
    let own : other ≡ name = h.named ∙ sym bad.named in
    inl (ap (λ n. BadAu n reason) own ∙ ap (λ c. BadAu name c) same)
bad_or way files source target new shelf (NoFile missing) name cause h bad = absurd (there files source bad.bytes bad.found h.1)
bad_or way files source target new shelf ShelfFault name cause h bad = inr tt
bad_or way files source target new shelf NoMemory name cause h bad = inr tt
bad_or way files source target new shelf Usage name cause h bad = absurd h
bad_or way files source target new shelf BadShape name cause h bad = absurd h
bad_or way files source target new shelf (BadScript n why) name cause h bad = absurd h
bad_or way files source target new shelf SinkFault name cause h bad = absurd h
bad_or way files source target new shelf (BadDisk place) name cause h bad = absurd h
bad_or way files source target new shelf DiskFault name cause h bad = absurd h
bad_or way files source target new shelf (BadIndex line) name cause h bad = absurd h
bad_or way files source target new shelf (BadNote note place) name cause h bad = absurd h
bad_or way files source target new shelf (TooManyKeys count) name cause h bad = absurd h
bad_or way files source target new shelf (BadPackets place) name cause h bad = absurd h
bad_or way files source target new shelf (JournalFull need left) name cause h bad = absurd h
bad_or way files source target new shelf InDoubt name cause h bad = absurd h
bad_or way files source target new shelf EpochSpent name cause h bad = absurd h

none_or : (way : Way) (files : Files) (source target : List ℕ) (new : Option Files) (shelf : Type 0) (status : Status) → ConversionComes way source target (Some files) new shelf status → get files source ≡ None → IsOr (NoFile source) status
none_or way files source target new shelf Done h none = absurd (there files source h.bytes h.found none)
none_or way files source target new shelf (BadAu other reason) h none = absurd (there files source h.bytes h.found none)
none_or way files source target new shelf (NoFile missing) h none = inl (ap (λ n. NoFile n) h.0)
none_or way files source target new shelf ShelfFault h none = inr tt
none_or way files source target new shelf NoMemory h none = inr tt
none_or way files source target new shelf Usage h none = absurd h
none_or way files source target new shelf BadShape h none = absurd h
none_or way files source target new shelf (BadScript n cause) h none = absurd h
none_or way files source target new shelf SinkFault h none = absurd h
none_or way files source target new shelf (BadDisk place) h none = absurd h
none_or way files source target new shelf DiskFault h none = absurd h
none_or way files source target new shelf (BadIndex line) h none = absurd h
none_or way files source target new shelf (BadNote note place) h none = absurd h
none_or way files source target new shelf (TooManyKeys count) h none = absurd h
none_or way files source target new shelf (BadPackets place) h none = absurd h
none_or way files source target new shelf (JournalFull need left) h none = absurd h
none_or way files source target new shelf InDoubt h none = absurd h
none_or way files source target new shelf EpochSpent h none = absurd h

exact : (way : Way) (told : Option Files) (source target : List ℕ) (new : Option Files) (shelf : Type 0) (status : Status) → ConversionComes way source target told new shelf status → IfSome told (λ files. ConversionExact way files source status)
exact way None source target new shelf status h = tt
exact way (Some files) source target new shelf status h = record {
  bad_au = λ name cause bad. bad_or way files source target new shelf status name cause h bad;
  no_file = λ none. none_or way files source target new shelf status h none;
}

not_refused : (way : Way) (bytes others : List ℕ) (cause : AuError) → bytes ≡ others → IsSound way bytes → IsRefusedFor way others cause → ⊥
not_refused ways.Import bytes others cause same sound refused = let e : Some cause ≡ None = sym refused ∙ sym (ap refusal same) ∙ sound in cc
not_refused ways.Export bytes others cause same sound refused = refused

done_or : (way : Way) (files : Files) (source target : List ℕ) (new : Option Files) (shelf : Type 0) (status : Status) (bytes : List ℕ) → ConversionComes way source target (Some files) new shelf status → get files source ≡ Some bytes → IsSound way bytes → (shelf → ⊥) → (status ≡ Done) ⊎ (status ≡ NoMemory)
done_or way files source target new shelf Done bytes h found sound calm = inl refl
done_or way files source target new shelf (BadAu other reason) bytes h found sound calm = absurd (not_refused way bytes h.bytes reason (same_file files source bytes h.bytes found h.found) sound h.refused)
done_or way files source target new shelf (NoFile missing) bytes h found sound calm = absurd (there files source bytes found h.1)
done_or way files source target new shelf ShelfFault bytes h found sound calm = absurd (calm h)
done_or way files source target new shelf NoMemory bytes h found sound calm = inr refl
done_or way files source target new shelf Usage bytes h found sound calm = absurd h
done_or way files source target new shelf BadShape bytes h found sound calm = absurd h
done_or way files source target new shelf (BadScript n cause) bytes h found sound calm = absurd h
done_or way files source target new shelf SinkFault bytes h found sound calm = absurd h
done_or way files source target new shelf (BadDisk place) bytes h found sound calm = absurd h
done_or way files source target new shelf DiskFault bytes h found sound calm = absurd h
done_or way files source target new shelf (BadIndex line) bytes h found sound calm = absurd h
done_or way files source target new shelf (BadNote note place) bytes h found sound calm = absurd h
done_or way files source target new shelf (TooManyKeys count) bytes h found sound calm = absurd h
done_or way files source target new shelf (BadPackets place) bytes h found sound calm = absurd h
done_or way files source target new shelf (JournalFull need left) bytes h found sound calm = absurd h
done_or way files source target new shelf InDoubt bytes h found sound calm = absurd h
done_or way files source target new shelf EpochSpent bytes h found sound calm = absurd h

complete : (way : Way) (told : Option Files) (source target : List ℕ) (old new : Outside) (after : Option Files) (status : Status) → ConversionComes way source target told after (ShelfFaulted old new) status → IfSome told (λ files. ConversionComplete way files source old new status)
complete way None source target old new after status h = tt
complete way (Some files) source target old new after status h = λ bytes found sound calm. done_or way files source target after (ShelfFaulted old new) status bytes h found sound calm

-- the promise, of what the call of a conversion tells
pub promised_conversion : (way : Way) (source target : List ℕ) (old new : Outside) (status : Status) (history : List Entry) → ConversionComes way source target old.files new.files (ShelfFaulted old new) status → IfSome old.files (λ files. IfSome new.files (SameElsewhere target files)) → (IsUnset status → new.files ≡ old.files)
    → history ≡ [] → new.contents ≡ old.contents → IsLeft old.disk new.disk → ConversionPromise way source target old new status history
promised_conversion way source target old new status history comes elsewhere unset silent quiet disk = record {
  comes = comes;
  exact = exact way old.files source target new.files (ShelfFaulted old new) status comes;
  complete = complete way old.files source target old new new.files status comes;
  elsewhere = elsewhere;
  unset = unset;
  silent = silent;
  quiet = quiet;
  disk = disk;
}
