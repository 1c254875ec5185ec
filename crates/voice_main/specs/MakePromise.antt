-- What `make SEED LINES` answers and leaves.
--     made_tapes seed lines      the samples of the files that the script's lines mention
--     MakeTold, MakeBegan      the history of the whole script, and what was printed of its line;  the history of the first lines
--     MakeComes      when each status comes
--     MakeComplete      where the disk's bytes are read and no count rose, the run is done, or memory was wanted
--     MakePromise seed lines old new status history      all of it
use Rattle.std.specs.Prelude.{ℕ, List, ◌≡◌, ◌⊎◌, false, IsTrue}
use Rattle.voice_outside.specs.Disk.{Told}
use Rattle.voice_model.specs.declared.calls.Entry.{Entry}
use Rattle.script_gen.specs.Scripts.{lines_of, files_of, tapes_of}
use Rattle.script_lang.specs.Shown.{Reading}
use Rattle.made_scripts.specs.Laws.{IsMade}
use Rattle.voice_main.specs.declared.status.Status.{Status}
use Rattle.voice_main.specs.declared.status.Status.TheVariants.{Done, SinkFault, BadDisk, DiskFault, NoMemory}
use Rattle.voice_main.specs.Outside.{Outside, SinkFaulted, DiskFaulted}
use Rattle.voice_main.specs.Ran.{Performed, Begun}
use Rattle.voice_main.specs.RunPromise.{IsDamaged, IsRead, IsUnopened, NoFaults}
use Rattle.voice_main.specs.AuditPromise.{AuditExact}
use Rattle.voice_main.specs.MadeRuns.{Gains, GainsPart, ToldSo}

-- the samples of the files that the script's lines mention
abbrev pub made_tapes : ℕ → ℕ → List (List ℕ)
made_tapes seed lines = tapes_of (files_of (lines_of seed lines))

-- the history of the whole script, and what was printed of its line
pub record MakeTold (seed lines : ℕ) (gained : List ℕ → Type 0) (old new : Told) (history : List Entry) : Type 0 where
  pub script : Reading
  pub made : IsMade seed lines script
  pub told : ToldSo (made_tapes seed lines) script gained old new history

-- the history of the first lines of the script
pub record MakeBegan (seed lines : ℕ) (old new : Told) (history : List Entry) : Type 0 where
  pub script : Reading
  pub made : IsMade seed lines script
  pub k : ℕ
  pub performed : Performed (made_tapes seed lines) (Begun false (made_tapes seed lines) script k history) old new history

-- when each status comes
abbrev pub MakeComes : ℕ → ℕ → Outside → Outside → List Entry → Status → Type 0
MakeComes seed lines old new history Done = MakeTold seed lines (Gains old.contents new.contents) old.disk new.disk history
MakeComes seed lines old new history SinkFault = SinkFaulted old new × MakeTold seed lines (GainsPart old.contents new.contents) old.disk new.disk history
MakeComes seed lines old new history (BadDisk place) = IsDamaged old.disk place
MakeComes seed lines old new history DiskFault = DiskFaulted old new
MakeComes seed lines old new history NoMemory = (new.contents ≡ old.contents) ⊎ MakeTold seed lines (GainsPart old.contents new.contents) old.disk new.disk history
MakeComes seed lines old new history _ = ⊥

-- where the disk's bytes are read and no count rose, the run is done, or memory was wanted, and no entry tells of a fault
abbrev pub MakeComplete : Outside → Outside → List Entry → Status → Type 0
MakeComplete old new history status = IsTrue old.disk.honest → IsRead old.disk → (SinkFaulted old new → ⊥) → (DiskFaulted old new → ⊥) → ((status ≡ Done) ⊎ (status ≡ NoMemory)) × NoFaults history

pub record MakePromise (seed lines : ℕ) (old new : Outside) (status : Status) (history : List Entry) : Type 0 where
  pub comes : MakeComes seed lines old new history status
  pub so_far : IsUnopened old new history ⊎ MakeBegan seed lines old.disk new.disk history
  -- what the disk's bytes decide comes, but for faults and want of memory
  pub exact : AuditExact old.disk status
  pub complete : MakeComplete old new history status
  -- it sets no file
  pub files : new.files ≡ old.files
