-- What `run NAME` and `run NAME --threads` answer and leave.
--     IsBadScript, IsNoFile      what the files decide
--     RunComes      when each status comes
--     RunSoFar      what stands of the history, whatever the status is
--     FilesAreLeft      what stands of the files where the run is not done
--     IsExact      each cause gives its status, but for faults and want of memory
--     IsComplete      where all is there and no count rose, the run is done, or memory was wanted
--     RunPromise threads name old new status history      all of it
use Rattle.std.specs.Prelude.{ℕ, List, [], ◌++◌, ◌≡◌, ◌⊎◌, Bool, Some, None, IfSome, IsTrue, count_by}
use Rattle.std.specs.FinMap.{get}
use Rattle.voice_outside.specs.Disk.{Told}
use Rattle.voice_outside.specs.Files.{Files}
use Rattle.voice_model.specs.declared.calls.Entry.{Entry}
use Rattle.voice_model.specs.Text.{text_of}
use Rattle.disk_areas.specs.Areas.{Journal}
use Rattle.voice_model.specs.Image as image
use Rattle.voice_model.specs.Replay.{Rebuilt}
use Rattle.voice_store.specs.Stood.{is_fault}
use Rattle.script_lang.specs.declared.scripts.Cause.{Cause}
use Rattle.script_lang.specs.Shown.{Reading}
use Rattle.script_lang.specs.Verbs.{is_built_verb}
use Rattle.script_lang.specs.Grammar.{IsScript}
use Rattle.script_lang.specs.Causes.{FirstBad}
use Rattle.voice_main.specs.declared.status.Status.{Status}
use Rattle.voice_main.specs.declared.status.Status.TheVariants.{Done, Usage, BadShape, BadScript, NoFile, ShelfFault, SinkFault, BadDisk, DiskFault, NoMemory, BadAu, BadIndex, BadNote, TooManyKeys, BadPackets, JournalFull, InDoubt, EpochSpent}
use Rattle.voice_main.specs.FormatPromise.{IsLeft}
use Rattle.voice_main.specs.Load.{FirstAbsent}
use Rattle.voice_main.specs.Outside.{Outside, ShelfFaulted, SinkFaulted, DiskFaulted, IsUnchanged}
use Rattle.voice_main.specs.Ran.{IsThere, RanSoFar, RanWhole, RanInto}

-- line n of the script is its first bad line, for that cause
pub record IsBadScript (files : Files) (name : List ℕ) (n : ℕ) (cause : Cause) : Type 0 where
  pub bytes : List ℕ
  pub found : get files name ≡ Some bytes
  pub bad : FirstBad is_built_verb bytes n cause

-- the script is there, and that is its first sample file that is absent
pub record LacksSample (files : Files) (name missing : List ℕ) : Type 0 where
  pub bytes : List ℕ
  pub script : Reading
  pub found : get files name ≡ Some bytes
  pub spelled : IsScript is_built_verb bytes script
  pub absent : FirstAbsent files script.samples missing

-- the script is absent, or else that is its first sample file that is
abbrev pub IsNoFile : Files → List ℕ → List ℕ → Type 0
IsNoFile files name missing = ((missing ≡ name) × (get files name ≡ None)) ⊎ LacksSample files name missing

-- the bytes of an honest disk have no reading, and that is the place of the damage
abbrev pub IsDamaged : Told → ℕ → Type 0
IsDamaged disk place = IsTrue disk.honest → image.reading disk.bytes ≡ image.Reading.Bad place

-- the disk's bytes are read
pub record IsRead (disk : Told) : Type 0 where
  pub journal : Journal
  pub rebuilt : Rebuilt
  pub reads : image.reading disk.bytes ≡ image.Reading.Reads journal rebuilt

-- when each status comes
abbrev pub RunComes : Bool → List ℕ → Outside → Outside → List Entry → Status → Type 0
RunComes threads name old new history Done = IfSome old.files (λ files. RanWhole threads files name old new history)
RunComes threads name old new history SinkFault = SinkFaulted old new × IfSome old.files (λ files. RanWhole threads files name old new history)
RunComes threads name old new history Usage = ⊥
RunComes threads name old new history BadShape = ⊥
RunComes threads name old new history (BadAu other cause) = ⊥
RunComes threads name old new history (BadIndex line) = ⊥
RunComes threads name old new history (BadNote note place) = ⊥
RunComes threads name old new history (TooManyKeys count) = ⊥
RunComes threads name old new history (BadPackets place) = ⊥
RunComes threads name old new history (JournalFull need left) = ⊥
RunComes threads name old new history InDoubt = ⊥
RunComes threads name old new history EpochSpent = ⊥
RunComes threads name old new history (BadScript n cause) = IfSome old.files (λ files. IsBadScript files name n cause)
RunComes threads name old new history (NoFile missing) = IfSome old.files (λ files. IsNoFile files name missing)
RunComes threads name old new history ShelfFault = ShelfFaulted old new
RunComes threads name old new history (BadDisk place) = IsDamaged old.disk place × IfSome old.files (λ files. IsThere files name)
RunComes threads name old new history DiskFault = DiskFaulted old new × IfSome old.files (λ files. IsThere files name)
RunComes threads name old new history NoMemory = Unit {0}

-- no store was opened, and nothing on the disk was changed
pub record IsUnopened (old new : Outside) (history : List Entry) : Type 0 where
  pub silent : history ≡ []
  pub disk : IsUnchanged old.disk new.disk

-- whatever the status is: no store was opened, or the history is that of the first lines
abbrev pub RunSoFar : Bool → List ℕ → Outside → Outside → List Entry → Type 0
RunSoFar threads name old new history = IsUnopened old new history ⊎ IfSome old.files (λ files. RanSoFar threads files name old.disk new.disk history)

-- no call was made: the files, the disk and what the sink took are as they were
pub record IsUntouched (old new : Outside) (history : List Entry) : Type 0 where
  pub silent : history ≡ []
  pub files : new.files ≡ old.files
  pub disk : IsLeft old.disk new.disk
  pub crash : (moment : ℕ) (image : List ℕ) → new.disk.may_leave moment image → old.disk.may_leave moment image
  pub contents : new.contents ≡ old.contents

-- what stands of the files: those of all servings are set where the run is done, or only its text couldn't be printed; on every other status none is, or some of the first where one couldn't be set
abbrev pub FilesAreLeft : Bool → Files → List ℕ → Outside → Outside → List Entry → Status → Type 0
FilesAreLeft threads files name old new history Done = Unit {0}
FilesAreLeft threads files name old new history SinkFault = Unit {0}
FilesAreLeft threads files name old new history NoMemory = (new.files ≡ Some files) ⊎ RanWhole threads files name old new history ⊎ RanInto threads files name old new history
FilesAreLeft threads files name old new history ShelfFault = IsUntouched old new history ⊎ RanInto threads files name old new history
FilesAreLeft threads files name old new history status = new.files ≡ Some files

-- the two statuses that may come in place of one that the files decide
abbrev pub IsExcused : Status → Type 0
IsExcused ShelfFault = Unit {0}
IsExcused NoMemory = Unit {0}
IsExcused _ = ⊥

-- the status, or one of those that may come in its place
abbrev pub IsOr : Status → Status → Type 0
IsOr wanted status = (status ≡ wanted) ⊎ IsExcused status

-- what the files and the disk's bytes decide comes, but for faults and want of memory
pub record IsExact (files : Files) (name : List ℕ) (disk : Told) (status : Status) : Type 0 where
  pub bad_script : (n : ℕ) (cause : Cause) → IsBadScript files name n cause → IsOr (BadScript n cause) status
  pub no_file : (missing : List ℕ) → IsNoFile files name missing → IsOr (NoFile missing) status
  pub bad_disk : (place : ℕ) → IsThere files name → IsTrue disk.honest → image.reading disk.bytes ≡ image.Reading.Bad place → (status ≡ DiskFault) ⊎ IsOr (BadDisk place) status
  pub good_disk : IsThere files name → IsTrue disk.honest → IsRead disk → (status ≡ SinkFault) ⊎ (status ≡ DiskFault) ⊎ IsOr Done status

-- no entry tells of a fault
abbrev pub NoFaults : List Entry → Type 0
NoFaults history = count_by is_fault history ≡ 0

-- where all is there, the disk's bytes are read and no count rose, the run is done, or memory was wanted, and no entry tells of a fault
abbrev pub IsComplete : Files → List ℕ → Outside → Outside → List Entry → Status → Type 0
IsComplete files name old new history status =
    IsThere files name → IsTrue old.disk.honest → IsRead old.disk → (ShelfFaulted old new → ⊥) → (SinkFaulted old new → ⊥) → (DiskFaulted old new → ⊥)
    → ((status ≡ Done) ⊎ (status ≡ NoMemory)) × NoFaults history

-- Of `Done` this says that the history is legal from the state that the disk was opened in (on an honest disk all of it, on every other all but the talk and peaks that were read off the disk), in the order of the lines, each caller's entries following its lines, and what a crash may leave of it.
pub record RunPromise (threads : Bool) (name : List ℕ) (old new : Outside) (status : Status) (history : List Entry) : Type 0 where
  pub comes : RunComes threads name old new history status
  pub so_far : RunSoFar threads name old new history
  pub exact : IfSome old.files (λ files. IsExact files name old.disk status)
  pub complete : IfSome old.files (λ files. IsComplete files name old new history status)
  pub left : IfSome old.files (λ files. FilesAreLeft threads files name old new history status)
  -- a finished run prints the text of its history and nothing else
  pub done : status ≡ Done → IfSome old.contents (λ had. new.contents ≡ Some (had ++ text_of history))
