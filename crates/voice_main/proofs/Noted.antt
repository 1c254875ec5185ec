-- Notes that are gone through, one after the other.
use Rattle.std.proofs.Common.{◌≡◌, ℕ, ◌+◌, ◌<◌, ◌≤◌, zero, suc, inl, inr, List, [], ◌∷◌, ◌++◌, length, get_or, take, drop, Option, Some, None, refl, sym, ap, subst, ◌∙◌, arith, append-nil, take-append-drop}
use Rattle.std.specs.Prelude.{IfSome, flat_map, Vec}
use Rattle.std.specs.declared.alloc.Global.{Global}
use Rattle.std.specs.FinMap.{get}
use Rattle.std.proofs.lemmas.List.{take_all, take_more, drop_more, get_or-map, length-map}
use Rattle.std.proofs.lemmas.Grind.{flat_map-append}
use Rattle.voice_outside.specs.Files.{Files}
use Rattle.voice_model.specs.Valid.{Every}
use Rattle.voice_notes.specs.Anchors.{anchored, bad_place, with_key, with_keys, IsCause}
use Rattle.voice_notes.specs.Index.{names_in, bad_line}
use Rattle.voice_notes.specs.declared.errors.NoteError.{NoteError}
use Rattle.voice_notes.specs.declared.errors.NoteError.TheVariants as errors
use Rattle.voice_main.specs.declared.load.LoadError.{LoadError}
use Rattle.voice_main.specs.declared.load.LoadError.TheVariants as load
use Rattle.voice_main.specs.declared.status.Status.{Status}
use Rattle.voice_main.specs.declared.status.Status.TheVariants.{Done, Usage, BadShape, BadScript, NoFile, ShelfFault, SinkFault, BadDisk, DiskFault, NoMemory, BadAu, BadIndex, BadNote, TooManyKeys, BadPackets, JournalFull, InDoubt, EpochSpent}
use Rattle.voice_main.specs.Load.{bytes_of, AreFiles, FirstAbsent, LoadIs}
use Rattle.voice_main.specs.Statuses.{load_status_of, note_status_of}
use Rattle.voice_main.specs.Notes.{keys_of, IsGood, IsIndex, IsBadIndex, AreTooMany, AreNamed, NoteIs, NotesStop}

-- the first i notes are good, and these are their keys
pub record Gathered (notes : List (List ℕ)) (i : ℕ) (keys : List (List ℕ)) : Type 0 where
  pub good : Every IsGood (take i notes)
  pub keys_are : keys ≡ keys_of (take i notes)

with_more : (keys found later : List (List ℕ)) → with_keys keys (found ++ later) ≡ with_keys (with_keys keys found) later
with_more keys [] later = refl
with_more keys (key ∷ found) later = with_more (with_key keys key) found later

good_more : (notes : List (List ℕ)) (note : List ℕ) → Every IsGood notes → IsGood note → Every IsGood (notes ++ note ∷ [])
good_more [] note all good = (good, tt)
good_more (n ∷ notes) note all good = (all.0, good_more notes note all.1 good)

keys_more : (notes : List (List ℕ)) (note : List ℕ) → keys_of (notes ++ note ∷ []) ≡ with_keys (keys_of notes) (anchored note)
keys_more notes note =
    ap (with_keys []) (flat_map-append anchored notes (note ∷ []) ∙ ap (λ l. flat_map anchored notes ++ l) (append-nil (anchored note)))
    ∙ with_more [] (flat_map anchored notes) (anchored note)

pub gathered_none : (notes keys : List (List ℕ)) → keys ≡ [] → Gathered notes 0 keys
gathered_none notes keys none = record { good = tt; keys_are = none }

-- the bytes of a note that is a vector
note_bytes : (notes : List (Vec ℕ Global)) (i : ℕ) (v : Vec ℕ Global) (lent : List ℕ) → i < length notes → v ≡ get_or notes i v → lent ≡ v.items → lent ≡ get_or (bytes_of notes) i lent
note_bytes notes i v lent within is same = same ∙ ap (λ (w : Vec ℕ Global). w.items) is ∙ sym (get_or-map (λ (w : Vec ℕ Global). w.items) notes i v lent within)

bytes_count : (notes : List (Vec ℕ Global)) → length (bytes_of notes) ≡ length notes
bytes_count notes = length-map notes (λ (w : Vec ℕ Global). w.items)

-- one note more
gathered_more : (notes : List (List ℕ)) (i : ℕ) (keys new : List (List ℕ)) (note : List ℕ) → i < length notes → note ≡ get_or notes i note → Gathered notes i keys → (bad_place note ≡ None) × (new ≡ with_keys keys (anchored note)) → Gathered notes (i + 1) new
gathered_more notes i keys new note within is h more =
    let grown : take i notes ++ note ∷ [] ≡ take (i + 1) notes = ap (λ n. take i notes ++ n ∷ []) is ∙ sym (take_more notes i note within) in
    record {
      good = subst (Every IsGood) grown (good_more (take i notes) note h.good more.0);
      keys_are = more.1 ∙ ap (λ ks. with_keys ks (anchored note)) h.keys_are ∙ sym (keys_more (take i notes) note) ∙ ap keys_of grown;
    }

gathered_all : (notes : List (List ℕ)) (i : ℕ) (keys : List (List ℕ)) → length notes ≤ i → Gathered notes i keys → Every IsGood notes × (keys ≡ keys_of notes)
gathered_all notes i keys all h =
    let whole : take i notes ≡ notes = take_all i notes all in
    (subst (Every IsGood) whole h.good, h.keys_are ∙ ap keys_of whole)

parted : (xs : List (List ℕ)) (i : ℕ) (x : List ℕ) → i < length xs → x ≡ get_or xs i x → xs ≡ take i xs ++ x ∷ drop (i + 1) xs
parted xs i x within is = sym (take-append-drop i xs) ∙ ap (λ r. take i xs ++ r) (drop_more xs i x within ∙ ap (λ y. y ∷ drop (i + 1) xs) (sym is))

beside : (xs ys : List (List ℕ)) (i : ℕ) → length xs ≡ length ys → length (take i xs) ≡ length (take i ys)
beside [] [] i same = refl
beside [] (y ∷ ys) i same = absurd (omega (arith, same))
beside (x ∷ xs) [] i same = absurd (omega (arith, same))
beside (x ∷ xs) (y ∷ ys) zero same = refl
beside (x ∷ xs) (y ∷ ys) (suc i) same = ap suc (beside xs ys i (omega (arith, same)))

pub gathered_more_in : (notes : List (Vec ℕ Global)) (i : ℕ) (keys new : List (List ℕ)) (v : Vec ℕ Global) (lent : List ℕ) → i < length notes → v ≡ get_or notes i v → lent ≡ v.items → Gathered (bytes_of notes) i keys
    → (bad_place lent ≡ None) × (new ≡ with_keys keys (anchored lent)) → Gathered (bytes_of notes) (i + 1) new
gathered_more_in notes i keys new v lent within is same h more =
    gathered_more (bytes_of notes) i keys new lent (subst (λ n. i < n) (sym (bytes_count notes)) within) (note_bytes notes i v lent within is same) h more

pub gathered_all_in : (notes : List (Vec ℕ Global)) (i : ℕ) (keys : List (List ℕ)) → length notes ≤ i → Gathered (bytes_of notes) i keys → Every IsGood (bytes_of notes) × (keys ≡ keys_of (bytes_of notes))
gathered_all_in notes i keys all h = gathered_all (bytes_of notes) i keys (subst (λ n. n ≤ i) (sym (bytes_count notes)) all) h

refused_note : (names notes : List (List ℕ)) (i : ℕ) (name note : List ℕ) (keys : List (List ℕ)) (e : NoteError) → i < length names → length notes ≡ length names → name ≡ get_or names i name → note ≡ get_or notes i note
    → Gathered notes i keys → IsCause note e → NoteIs names notes (note_status_of name e)
refused_note names notes i name note keys (errors.BadAnchor place) within same name_is note_is h bad = record {
  front = take i names;
  rest = drop (i + 1) names;
  names_are = parted names i name within name_is;
  before = take i notes;
  note = note;
  behind = drop (i + 1) notes;
  notes_are = parted notes i note (omega (arith, within, same)) note_is;
  beside = beside notes names i same;
  first = h.good;
  bad = bad;
}
refused_note names notes i name note keys errors.NoMemory within same name_is note_is h bad = tt

pub refused_note_in : (names : List (List ℕ)) (notes : List (Vec ℕ Global)) (i : ℕ) (name : List ℕ) (v : Vec ℕ Global) (lent : List ℕ) (keys : List (List ℕ)) (e : NoteError) → i < length names → length notes ≡ length names → name ≡ get_or names i name → v ≡ get_or notes i v → lent ≡ v.items
    → Gathered (bytes_of notes) i keys → IsCause lent e → NoteIs names (bytes_of notes) (note_status_of name e)
refused_note_in names notes i name v lent keys e within same name_is note_is lent_is h cause =
    refused_note names (bytes_of notes) i name lent keys e within (bytes_count notes ∙ same) name_is (note_bytes notes i v lent (subst (λ n. i < n) (sym same) within) note_is lent_is) h cause

-- ---- the files

pub index_there : (told : Option Files) (index bytes lent : List ℕ) (names : List (List ℕ)) → IfSome told (λ files. get files index ≡ Some bytes) → lent ≡ bytes → (bad_line lent ≡ None) × (names ≡ names_in lent) → IfSome told (λ files. IsIndex files index names)
index_there None index bytes lent names found same good = tt
index_there (Some files) index bytes lent names found same good = record { bytes = bytes; found = found; good = ap bad_line (sym same) ∙ good.0; listed = good.1 ∙ ap names_in same }

pub index_bad : (told : Option Files) (index bytes lent : List ℕ) (n : ℕ) → IfSome told (λ files. get files index ≡ Some bytes) → lent ≡ bytes → bad_line lent ≡ Some n → IfSome told (λ files. IsBadIndex files index n)
index_bad None index bytes lent n found same bad = tt
index_bad (Some files) index bytes lent n found same bad = record { bytes = bytes; found = found; bad = ap bad_line (sym same) ∙ bad }

pub index_absent : (told : Option Files) (index : List ℕ) (shelf : Type 0) (e : LoadError) → LoadIs (λ missing. (missing ≡ index) × IfSome told (λ files. get files index ≡ None)) shelf e → NotesStop index told shelf (load_status_of e)
index_absent None index shelf (load.NoFile name) h = tt
index_absent (Some files) index shelf (load.NoFile name) h = inl h
index_absent told index shelf load.ShelfFault h = h
index_absent told index shelf load.NoMemory h = tt

pub note_absent : (told mid : Option Files) (index : List ℕ) (names : List (List ℕ)) (shelf risen : Type 0) (e : LoadError) → IfSome told (λ files. IsIndex files index names) → mid ≡ told → (shelf → risen)
    → LoadIs (λ missing. IfSome mid (λ files. FirstAbsent files names missing)) shelf e → NotesStop index told risen (load_status_of e)
note_absent None mid index names shelf risen (load.NoFile name) listed kept rose h = tt
note_absent (Some files) mid index names shelf risen (load.NoFile name) listed kept rose h =
    inr (record { names = names; listed = listed; absent = subst (λ t. IfSome t (λ files. FirstAbsent files names name)) kept h })
note_absent told mid index names shelf risen load.ShelfFault listed kept rose h = rose h
note_absent told mid index names shelf risen load.NoMemory listed kept rose h = tt

pub note_bad : (told mid : Option Files) (index : List ℕ) (names notes : List (List ℕ)) (shelf : Type 0) (status : Status) → IfSome told (λ files. IsIndex files index names) → mid ≡ told → IfSome mid (λ files. AreFiles files names notes)
    → NoteIs names notes status → NotesStop index told shelf status
note_bad None mid index names notes shelf (BadNote name place) listed kept there h = tt
note_bad (Some files) mid index names notes shelf (BadNote name place) listed kept there h =
    record { names = names; notes = notes; listed = listed; there = subst (λ t. IfSome t (λ files. AreFiles files names notes)) kept there; bad = h }
note_bad told mid index names notes shelf NoMemory listed kept there h = tt
note_bad told mid index names notes shelf Done listed kept there h = h
note_bad told mid index names notes shelf Usage listed kept there h = h
note_bad told mid index names notes shelf BadShape listed kept there h = h
note_bad told mid index names notes shelf (BadScript n cause) listed kept there h = h
note_bad told mid index names notes shelf (NoFile name) listed kept there h = absurd h
note_bad told mid index names notes shelf ShelfFault listed kept there h = absurd h
note_bad told mid index names notes shelf SinkFault listed kept there h = h
note_bad told mid index names notes shelf (BadDisk place) listed kept there h = h
note_bad told mid index names notes shelf DiskFault listed kept there h = h
note_bad told mid index names notes shelf (BadAu name cause) listed kept there h = h
note_bad told mid index names notes shelf (BadIndex n) listed kept there h = absurd h
note_bad told mid index names notes shelf (TooManyKeys count) listed kept there h = absurd h
note_bad told mid index names notes shelf (BadPackets place) listed kept there h = absurd h
note_bad told mid index names notes shelf (JournalFull need left) listed kept there h = absurd h
note_bad told mid index names notes shelf InDoubt listed kept there h = absurd h
note_bad told mid index names notes shelf EpochSpent listed kept there h = absurd h

pub are_named : (told mid : Option Files) (index : List ℕ) (names notes keys : List (List ℕ)) → IfSome told (λ files. IsIndex files index names) → mid ≡ told → IfSome mid (λ files. AreFiles files names notes)
    → Every IsGood notes × (keys ≡ keys_of notes) → length keys ≤ 1024 → IfSome told (λ files. AreNamed files index keys)
are_named None mid index names notes keys listed kept there good few = tt
are_named (Some files) mid index names notes keys listed kept there good few = record {
  notes = notes;
  there = record { names = names; listed = listed; there = subst (λ t. IfSome t (λ files. AreFiles files names notes)) kept there };
  good = good.0;
  named = good.1;
  few = few;
}

pub too_many : (told mid : Option Files) (index : List ℕ) (names notes keys : List (List ℕ)) (count : ℕ) → IfSome told (λ files. IsIndex files index names) → mid ≡ told → IfSome mid (λ files. AreFiles files names notes)
    → Every IsGood notes × (keys ≡ keys_of notes) → length keys ≡ count → 1024 < count → IfSome told (λ files. AreTooMany files index count)
too_many None mid index names notes keys count listed kept there good counted many = tt
too_many (Some files) mid index names notes keys count listed kept there good counted many = record {
  notes = notes;
  there = record { names = names; listed = listed; there = subst (λ t. IfSome t (λ files. AreFiles files names notes)) kept there };
  good = good.0;
  counted = ap length (sym good.1) ∙ counted;
  many = many;
}
