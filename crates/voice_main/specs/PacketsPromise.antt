-- What `packets SCRIPT FILE FIRST` answers and leaves: a run of the script in the order of its lines, and a file of the packets of its changes.
--     RanPackets, RanPacketsInto      the history of all, all its files set and that of the packets;  or this one perhaps
--     PacketsCome      when each status comes
--     PacketsLeft      what stands of the files where the run is not done
--     RanNext      the line behind the text of a finished run
--     PacketsPromise script file first old new status history      all of it
use Rattle.std.specs.Prelude.{ℕ, List, ◌≡◌, ◌⊎◌, false, Some, IfSome}
use Rattle.voice_outside.specs.Files.{Files}
use Rattle.voice_model.specs.declared.calls.Entry.{Entry}
use Rattle.voice_main.specs.declared.status.Status.{Status}
use Rattle.voice_main.specs.declared.status.Status.TheVariants.{Done, ShelfFault, SinkFault, NoMemory}
use Rattle.voice_main.specs.Outside.{Outside, SinkFaulted}
use Rattle.voice_main.specs.Ran.{Ran, RanInto}
use Rattle.voice_main.specs.RunPromise.{RunComes, RunSoFar, IsUntouched, IsExact, IsComplete}
use Rattle.voice_main.specs.Sent.{MadePackets, MadePacketsInto, IsNext, GainsText, GainsFront}

-- the history of the whole script, all its files set, and behind them that of the packets
abbrev pub RanPackets : Files → List ℕ → List ℕ → ℕ → Outside → Outside → List Entry → Type 0
RanPackets files name file number old new history = Ran files name (λ tapes script honest first. MadePackets file number tapes script old.disk new.disk history files new.files honest first) old.disk new.disk history

-- or the last one perhaps
abbrev pub RanPacketsInto : Files → List ℕ → List ℕ → Outside → Outside → List Entry → Type 0
RanPacketsInto files name file old new history = Ran files name (λ tapes script honest first. MadePacketsInto file tapes script old.disk new.disk history files new.files honest first) old.disk new.disk history

-- when each status comes
abbrev pub PacketsCome : List ℕ → List ℕ → ℕ → Outside → Outside → List Entry → Status → Type 0
PacketsCome name file number old new history Done = IfSome old.files (λ files. RanPackets files name file number old new history)
PacketsCome name file number old new history SinkFault = SinkFaulted old new × IfSome old.files (λ files. RanPackets files name file number old new history)
PacketsCome name file number old new history status = RunComes false name old new history status

-- what stands of the files where the run is not done: on every other status none is set, or some of the first where one couldn't be set
abbrev pub PacketsLeft : Files → List ℕ → List ℕ → ℕ → Outside → Outside → List Entry → Status → Type 0
PacketsLeft files name file number old new history Done = Unit {0}
PacketsLeft files name file number old new history SinkFault = Unit {0}
PacketsLeft files name file number old new history NoMemory =
    (new.files ≡ Some files) ⊎ RanPackets files name file number old new history ⊎ RanInto false files name old new history ⊎ RanPacketsInto files name file old new history
PacketsLeft files name file number old new history ShelfFault = IsUntouched old new history ⊎ RanInto false files name old new history ⊎ RanPacketsInto files name file old new history
PacketsLeft files name file number old new history status = new.files ≡ Some files

-- the line behind the text of a finished run
abbrev pub RanNext : Files → List ℕ → ℕ → Outside → Outside → List Entry → List ℕ → Type 0
RanNext files name number old new history line = Ran files name (λ tapes script honest first. IsNext number tapes history line honest first) old.disk new.disk history

pub record PacketsPromise (name file : List ℕ) (number : ℕ) (old new : Outside) (status : Status) (history : List Entry) : Type 0 where
  pub comes : PacketsCome name file number old new history status
  pub so_far : RunSoFar false name old new history
  pub exact : IfSome old.files (λ files. IsExact files name old.disk status)
  pub complete : IfSome old.files (λ files. IsComplete files name old new history status)
  pub left : IfSome old.files (λ files. PacketsLeft files name file number old new history status)
  -- a finished run prints the text of its history and the line that tells the next number, and nothing else
  pub done : status ≡ Done → GainsText old.contents new.contents history (λ line. IfSome old.files (λ files. RanNext files name number old new history line))
  -- on every status it prints a front of such a text
  pub prefix : GainsFront old.contents new.contents history
