-- What an index and its notes name, and the census of their keys.
--     keys_of notes      the keys of their anchors, each once, in order of first place
--     IsIndex files index names      the index is there, each of its lines is one FILE or quiet, and these are the names
--     IsBadIndex, IsNoNote, IsBadNote, AreTooMany      why the files name no keys
--     AreNamed files index keys      the notes of the index name these keys
--     IsOneCensus keys honest first history      the history is one census of these keys
--     IsCensusSoFar keys honest first history      it is empty, or that
--     NotesStop index told shelf status      why a status came before the disk was touched
use Rattle.std.specs.Prelude.{ℕ, List, [], ◌∷◌, ◌++◌, ◌≡◌, ◌≤◌, ◌<◌, ◌⊎◌, Bool, Option, Some, None, IfSome, IsTrue, length, flat_map}
use Rattle.std.specs.FinMap.{get}
use Rattle.voice_outside.specs.Files.{Files}
use Rattle.voice_model.specs.State.{State}
use Rattle.voice_model.specs.Step.{after}
use Rattle.voice_model.specs.Heard.{LegalOn}
use Rattle.voice_model.specs.Valid.{Every}
use Rattle.voice_model.specs.Changes.{unlisted_keys, rows_left}
use Rattle.voice_model.specs.declared.calls.Entry.{Entry}
use Rattle.voice_model.specs.declared.calls.Call.TheVariants as calls
use Rattle.voice_model.specs.declared.calls.Reply.TheVariants as replies
use Rattle.voice_notes.specs.Anchors.{anchored, bad_place, with_keys}
use Rattle.voice_notes.specs.Index.{names_in, bad_line}
use Rattle.voice_main.specs.declared.status.Status.{Status}
use Rattle.voice_main.specs.declared.status.Status.TheVariants.{NoFile, ShelfFault, NoMemory, BadIndex, BadNote, TooManyKeys}
use Rattle.voice_main.specs.Load.{AreFiles, FirstAbsent}
use Rattle.servings.specs.Asked.{asked_entries}

-- the keys of the notes' anchors, each once, in order of first place
abbrev pub keys_of : List (List ℕ) → List (List ℕ)
keys_of notes = with_keys [] (flat_map anchored notes)

-- where `[[voice:` stands in a note, an anchor does
abbrev pub IsGood : List ℕ → Type 0
IsGood note = bad_place note ≡ None

-- the index is there, has no bad line, and lists these names
pub record IsIndex (files : Files) (index : List ℕ) (names : List (List ℕ)) : Type 0 where
  pub bytes : List ℕ
  pub found : get files index ≡ Some bytes
  pub good : bad_line bytes ≡ None
  pub listed : names ≡ names_in bytes

-- line n of the index is its first bad line
pub record IsBadIndex (files : Files) (index : List ℕ) (n : ℕ) : Type 0 where
  pub bytes : List ℕ
  pub found : get files index ≡ Some bytes
  pub bad : bad_line bytes ≡ Some n

-- the index is there, and that is the first of its notes that is absent
pub record LacksNote (files : Files) (index missing : List ℕ) : Type 0 where
  pub names : List (List ℕ)
  pub listed : IsIndex files index names
  pub absent : FirstAbsent files names missing

-- the index is absent, or else that is its first note that is
abbrev pub IsNoNote : Files → List ℕ → List ℕ → Type 0
IsNoNote files index missing = ((missing ≡ index) × (get files index ≡ None)) ⊎ LacksNote files index missing

-- the index is there, and these are its notes
pub record AreNotes (files : Files) (index : List ℕ) (notes : List (List ℕ)) : Type 0 where
  pub names : List (List ℕ)
  pub listed : IsIndex files index names
  pub there : AreFiles files names notes

-- the first of these notes that has a bad anchor, by its name
pub record FirstBadNote (names notes : List (List ℕ)) (name : List ℕ) (place : ℕ) : Type 0 where
  pub front : List (List ℕ)
  pub rest : List (List ℕ)
  pub names_are : names ≡ front ++ name ∷ rest
  pub before : List (List ℕ)
  pub note : List ℕ
  pub behind : List (List ℕ)
  pub notes_are : notes ≡ before ++ note ∷ behind
  pub beside : length before ≡ length front
  pub first : Every IsGood before
  pub bad : bad_place note ≡ Some place

-- all notes are there, and that is the first that has a bad anchor, with the anchor's place
pub record IsBadNote (files : Files) (index name : List ℕ) (place : ℕ) : Type 0 where
  pub names : List (List ℕ)
  pub notes : List (List ℕ)
  pub listed : IsIndex files index names
  pub there : AreFiles files names notes
  pub bad : FirstBadNote names notes name place

-- all notes are there and good, and name more than 1,024 keys
pub record AreTooMany (files : Files) (index : List ℕ) (count : ℕ) : Type 0 where
  pub notes : List (List ℕ)
  pub there : AreNotes files index notes
  pub good : Every IsGood notes
  pub counted : length (keys_of notes) ≡ count
  pub many : 1024 < count

-- all notes are there and good, and name these keys, which are not too many
pub record AreNamed (files : Files) (index : List ℕ) (keys : List (List ℕ)) : Type 0 where
  pub notes : List (List ℕ)
  pub there : AreNotes files index notes
  pub good : Every IsGood notes
  pub named : keys ≡ keys_of notes
  pub few : length keys ≤ 1024

-- the notes name some keys
pub record HaveKeys (files : Files) (index : List ℕ) : Type 0 where
  pub keys : List (List ℕ)
  pub named : AreNamed files index keys

-- why notes of these names give no keys
abbrev pub NoteIs : List (List ℕ) → List (List ℕ) → Status → Type 0
NoteIs names notes (BadNote name place) = FirstBadNote names notes name place
NoteIs names notes NoMemory = Unit {0}
NoteIs names notes _ = ⊥

-- why a status came before the disk was touched
abbrev pub NotesStop : List ℕ → Option Files → Type 0 → Status → Type 0
NotesStop index told shelf (BadIndex n) = IfSome told (λ files. IsBadIndex files index n)
NotesStop index told shelf (NoFile missing) = IfSome told (λ files. IsNoNote files index missing)
NotesStop index told shelf (BadNote name place) = IfSome told (λ files. IsBadNote files index name place)
NotesStop index told shelf (TooManyKeys count) = IfSome told (λ files. AreTooMany files index count)
NotesStop index told shelf ShelfFault = shelf
NotesStop index told shelf NoMemory = Unit {0}
NotesStop index told shelf _ = ⊥

-- ---- the census

-- nothing but the landing of a change in doubt, and on an honest disk, which has none as it is opened, nothing
pub record AreLandings (honest : Bool) (entries : List Entry) : Type 0 where
  pub asked : asked_entries entries ≡ []
  pub none : IsTrue honest → entries ≡ []

-- the `listed` rows without these keys are gone, all others stand, and the number tells how many went
pub record AreCounted (keys : List (List ℕ)) (old new : State) (n : ℕ) : Type 0 where
  pub rows : new.rows ≡ rows_left old.rows (unlisted_keys old.rows keys)
  pub number : n ≡ length (unlisted_keys old.rows keys)

-- the history is one census of these keys by caller 1: alone on an honest disk, on every other perhaps behind a landing
pub record IsOneCensus (keys : List (List ℕ)) (honest : Bool) (first : State) (history : List Entry) : Type 0 where
  pub before : List Entry
  pub entry : Entry
  pub whole : history ≡ before ++ entry ∷ []
  pub alone : AreLandings honest before
  pub caller : entry.caller ≡ 1
  pub call : entry.call ≡ calls.Census keys
  pub legal : LegalOn honest first [] history
  pub rows : (n : ℕ) → entry.reply ≡ replies.Number n → AreCounted keys (after first [] before) (after first [] history) n

-- no call was made yet
pub record IsNoCensus (honest : Bool) (first : State) (history : List Entry) : Type 0 where
  pub none : AreLandings honest history
  pub legal : LegalOn honest first [] history

-- the history is empty, or that
abbrev pub IsCensusSoFar : List (List ℕ) → Bool → State → List Entry → Type 0
IsCensusSoFar keys honest first history = IsNoCensus honest first history ⊎ IsOneCensus keys honest first history
