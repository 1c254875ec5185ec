-- What `notes INDEX` answers and leaves.
--     NotesComes      when each status comes
--     NotesSoFar      what stands of the history, whatever the status is
--     NotesExact      each cause gives its status, but for faults and want of memory
--     NotesComplete      where the notes name keys and no count rose, the census is made, or memory was wanted
--     NotesPromise index old new status history      all of it
use Rattle.std.specs.Prelude.{ℕ, List, [], ◌++◌, ◌≡◌, ◌⊎◌, Some, IfSome, IsTrue}
use Rattle.voice_outside.specs.Disk.{Told}
use Rattle.voice_outside.specs.Files.{Files}
use Rattle.voice_model.specs.declared.calls.Entry.{Entry}
use Rattle.voice_model.specs.Text.{text_of}
use Rattle.voice_model.specs.Image as image
use Rattle.voice_main.specs.declared.status.Status.{Status}
use Rattle.voice_main.specs.declared.status.Status.TheVariants.{Done, NoFile, SinkFault, BadDisk, DiskFault, NoMemory, BadIndex, BadNote, TooManyKeys}
use Rattle.voice_main.specs.Outside.{Outside, ShelfFaulted, SinkFaulted, DiskFaulted}
use Rattle.voice_main.specs.Ran.{Performed}
use Rattle.voice_main.specs.RunPromise.{IsDamaged, IsRead, IsUnopened, IsOr, NoFaults}
use Rattle.voice_main.specs.Notes.{IsBadIndex, IsNoNote, IsBadNote, AreTooMany, AreNamed, HaveKeys, NotesStop, IsOneCensus, IsCensusSoFar}

-- the notes name keys, and the history is one census of them
pub record CensusRan (files : Files) (index : List ℕ) (old new : Told) (history : List Entry) : Type 0 where
  pub keys : List (List ℕ)
  pub named : AreNamed files index keys
  pub performed : Performed [] (λ honest first. IsOneCensus keys honest first history) old new history

-- the notes name keys, and the history is a census of them, or is empty yet
pub record CensusBegan (files : Files) (index : List ℕ) (old new : Told) (history : List Entry) : Type 0 where
  pub keys : List (List ℕ)
  pub named : AreNamed files index keys
  pub performed : Performed [] (λ honest first. IsCensusSoFar keys honest first history) old new history

-- when each status comes
abbrev pub NotesComes : List ℕ → Outside → Outside → List Entry → Status → Type 0
NotesComes index old new history Done = IfSome old.files (λ files. CensusRan files index old.disk new.disk history)
NotesComes index old new history SinkFault = SinkFaulted old new × IfSome old.files (λ files. CensusRan files index old.disk new.disk history)
NotesComes index old new history (BadDisk place) = IsDamaged old.disk place × IfSome old.files (λ files. HaveKeys files index)
NotesComes index old new history DiskFault = DiskFaulted old new × IfSome old.files (λ files. HaveKeys files index)
NotesComes index old new history status = NotesStop index old.files (ShelfFaulted old new) status

-- whatever the status is: no store was opened, or the history is that of one census, or is empty
abbrev pub NotesSoFar : List ℕ → Outside → Outside → List Entry → Type 0
NotesSoFar index old new history = IsUnopened old new history ⊎ IfSome old.files (λ files. CensusBegan files index old.disk new.disk history)

-- what the files and the disk's bytes decide comes, but for faults and want of memory
pub record NotesExact (files : Files) (index : List ℕ) (disk : Told) (status : Status) : Type 0 where
  pub bad_index : (n : ℕ) → IsBadIndex files index n → IsOr (BadIndex n) status
  pub no_file : (missing : List ℕ) → IsNoNote files index missing → IsOr (NoFile missing) status
  pub bad_note : (name : List ℕ) (place : ℕ) → IsBadNote files index name place → IsOr (BadNote name place) status
  pub too_many : (count : ℕ) → AreTooMany files index count → IsOr (TooManyKeys count) status
  pub bad_disk : (place : ℕ) → HaveKeys files index → IsTrue disk.honest → image.reading disk.bytes ≡ image.Reading.Bad place → (status ≡ DiskFault) ⊎ IsOr (BadDisk place) status
  pub good_disk : HaveKeys files index → IsTrue disk.honest → IsRead disk → (status ≡ SinkFault) ⊎ (status ≡ DiskFault) ⊎ IsOr Done status

-- where the notes name keys, the disk's bytes are read and no count rose, the census is made, or memory was wanted, and no entry tells of a fault
abbrev pub NotesComplete : Files → List ℕ → Outside → Outside → List Entry → Status → Type 0
NotesComplete files index old new history status =
    HaveKeys files index → IsTrue old.disk.honest → IsRead old.disk → (ShelfFaulted old new → ⊥) → (SinkFaulted old new → ⊥) → (DiskFaulted old new → ⊥)
    → ((status ≡ Done) ⊎ (status ≡ NoMemory)) × NoFaults history

pub record NotesPromise (index : List ℕ) (old new : Outside) (status : Status) (history : List Entry) : Type 0 where
  pub comes : NotesComes index old new history status
  pub so_far : NotesSoFar index old new history
  pub exact : IfSome old.files (λ files. NotesExact files index old.disk status)
  pub complete : IfSome old.files (λ files. NotesComplete files index old new history status)
  -- a finished census prints the text of its history and nothing else
  pub done : status ≡ Done → IfSome old.contents (λ had. new.contents ≡ Some (had ++ text_of history))
