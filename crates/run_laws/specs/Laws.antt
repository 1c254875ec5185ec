-- What a finished run prints is determined: the laws, as statements.
--     HistoriesAreDetermined      one history of the same lines from one state over an honest disk, but for its moments
--     Seen      what a run sees beside its disk
--     IsCalm      no count of faults rose
--     IsDone      a run that is done, over these files and from these bytes
--     CalmRunsTellOfNoFault      where no count of faults rose, no entry tells of a fault
--     GainAlike      two sinks gained the same
--     RunsPrintAlike      two runs whose entries tell of no fault print the same
use Rattle.std.specs.Prelude.{ℕ, List, ◌++◌, ◌≡◌, true, false, Option, Some, None, IsTrue}
use Rattle.voice_outside.specs.Disk.{Told}
use Rattle.voice_outside.specs.Files.{Files}
use Rattle.voice_model.specs.State.{State}
use Rattle.voice_model.specs.Text.{text_of}
use Rattle.voice_model.specs.declared.calls.Entry.{Entry}
use Rattle.script_lang.specs.declared.scripts.Line.{Line}
use Rattle.voice_main.specs.declared.status.Status.TheVariants.{Done}
use Rattle.voice_main.specs.Outside.{Outside, outside, ShelfFaulted, SinkFaulted, DiskFaulted}
use Rattle.voice_main.specs.Ran.{Serial}
use Rattle.voice_main.specs.RunPromise.{NoFaults, RunPromise}
use Rattle.run_laws.specs.Alike.{SameButAcks}

-- the histories of the first k lines over honest disks, where nothing is in doubt at first and no entry tells of a fault
pub record HistoriesAreDetermined : Type 0 where
  pub histories :
      (first : State) (tapes : List (List ℕ)) (lines : List Line) (k : ℕ) (history other : List Entry) → first.doubt ≡ None
      → Serial true first tapes lines k history → Serial true first tapes lines k other → NoFaults history → NoFaults other
      → SameButAcks history other
  -- the moments don't show in the text
  pub texts : (history other : List Entry) → SameButAcks history other → text_of history ≡ text_of other

-- the shelf's files and faults, the sink's contents, faults and empty takes
pub record Seen : Type 0 where
  pub files : Option Files
  pub shelf_faults : ℕ
  pub contents : Option (List ℕ)
  pub sink_faults : ℕ
  pub empty_takes : ℕ

abbrev pub seen : Seen → Told → Outside
seen s disk = outside s.files s.shelf_faults s.contents s.sink_faults s.empty_takes disk

-- no count of faults rose
pub record IsCalm (old new : Outside) : Type 0 where
  pub shelf : ShelfFaulted old new → ⊥
  pub sink : SinkFaulted old new → ⊥
  pub disk : DiskFaulted old new → ⊥

-- the run of that name is done, over these files and from these bytes of an honest disk
pub record IsDone (name : List ℕ) (files : Files) (bytes : List ℕ) (old : Seen) (disk : Told) (new : Outside) (history : List Entry) : Type 0 where
  pub promise : RunPromise false name (seen old disk) new Done history
  pub shelf : old.files ≡ Some files
  pub honest : IsTrue disk.honest
  pub image : disk.bytes ≡ bytes

-- such a run, where no count of faults rose
pub record CalmRunsTellOfNoFault (old new : Told) : Type 0 where
  pub calm :
      (name : List ℕ) (files : Files) (bytes : List ℕ) (a b : Seen) (history : List Entry)
      → IsDone name files bytes a old (seen b new) history → IsCalm (seen a old) (seen b new) → NoFaults history

-- what both sinks gained
pub record GainAlike (had other_had : List ℕ) (contents other_contents : Option (List ℕ)) : Type 0 where
  pub gained : List ℕ
  pub one : contents ≡ Some (had ++ gained)
  pub other : other_contents ≡ Some (other_had ++ gained)

-- two runs of one script over the same files and from the same bytes, whose entries tell of no fault
pub record RunsPrintAlike (old new other_old other_new : Told) : Type 0 where
  -- they are the same but for their moments
  pub histories :
      (name : List ℕ) (files : Files) (bytes : List ℕ) (a b x y : Seen) (history other : List Entry)
      → IsDone name files bytes a old (seen b new) history → IsDone name files bytes x other_old (seen y other_new) other → NoFaults history → NoFaults other
      → SameButAcks history other
  pub texts :
      (name : List ℕ) (files : Files) (bytes : List ℕ) (a b x y : Seen) (history other : List Entry)
      → IsDone name files bytes a old (seen b new) history → IsDone name files bytes x other_old (seen y other_new) other → NoFaults history → NoFaults other
      → text_of history ≡ text_of other
  pub sinks :
      (name : List ℕ) (files : Files) (bytes had other_had : List ℕ) (a b x y : Seen) (history other : List Entry)
      → IsDone name files bytes a old (seen b new) history → IsDone name files bytes x other_old (seen y other_new) other → NoFaults history → NoFaults other
      → a.contents ≡ Some had → x.contents ≡ Some other_had
      → GainAlike had other_had b.contents y.contents
