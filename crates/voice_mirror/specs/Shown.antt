-- What contracts see of a mirror.
--     MirrorState      its journal, the tables, the position and what is in doubt
--     Shown      its disk, the disk as it was opened, and its state
--     Waits pending journal parts position      what is in doubt is what the tables ahead differ by
--     IsUpright size s      what a mirror keeps on any disk
--     Keeps first from t0 taken doubt disk s      the disk stands for the changes that were taken since the position `from`, and the tables show what it has
--     KeepsSome disk s      it stands for some
--     IsOpened bytes calls disk s      these bytes mean what a mirror keeps
--     IsRead bytes s      the state is what these bytes mean
--     state_of inside, IsStanding size inside, IsWhole origin disk inside      the same of the parts of the program
use Rattle.std.specs.Prelude.{◌≡◌, ℕ, ◌+◌, ◌^◌, ◌<◌, ◌≤◌, List, [], length, Option, None, Some, IsTrue, IsSome}
use Rattle.voice_outside.specs.Disk.{Told}
use Rattle.disk_areas.specs.Areas.{Journal}
use Rattle.voice_model.specs.Samples.{Tagged}
use Rattle.voice_model.specs.State.{Durable, Effect}
use Rattle.voice_model.specs.Replay.{Rebuilt, recovered}
use Rattle.voice_journal.specs.Readings.{extent}
use Rattle.voice_journal.specs.Places.{JournalValue}
use Rattle.recovery.specs.declared.parts.Parts.{Parts}
use Rattle.recovery.specs.Shown.{Rebuilds, IsParts}
use Rattle.mirror_readings.specs.Readings.{Mirrored, MirrorReading, mirror_reading, mirrored_from}
use Rattle.mirror_laws.specs.Standing.{Took, IsHeld}
use Rattle.mirror_tables.specs.Beside.{IsBehind, IsBeside}
use Rattle.voice_mirror.specs.declared.inside.Inside.{Inside}
use Rattle.voice_mirror.specs.declared.inside.Pending.{Pending}

pub record MirrorState : Type 0 where
  pub journal : JournalValue
  pub parts : Parts
  pub position : ℕ
  pub pending : Option Pending

pub record Shown (D : Type 0) : Type 0 where
  pub disk : D
  pub origin : D
  pub state : MirrorState

-- ---- what a mirror keeps on any disk

-- a change is in doubt, and the tables ahead have it besides; its number is in the range of packets
pub record IsWaiting (journal : JournalValue) (parts : Parts) (position : ℕ) (p : Pending) : Type 0 where
  pub unsure : IsSome journal.doubt
  pub behind : IsBehind journal.shape p.tables parts p.change
  pub next : position < 2 ^ 48

abbrev pub Waits : Option Pending → JournalValue → Parts → ℕ → Type 0
Waits None journal parts position = journal.doubt ≡ None
Waits (Some p) journal parts position = IsWaiting journal parts position p

pub record IsUpright (size : ℕ) (s : MirrorState) : Type 0 where
  pub fits : extent s.journal.shape ≤ size
  pub newest : s.journal.shape.version ≡ 2
  pub tables : IsParts s.journal.shape s.parts
  pub waits : Waits s.pending s.journal s.parts s.position

-- ---- what it keeps on an honest disk

-- the tables ahead show what is there after the change in doubt
abbrev pub ShowsNext : Option Pending → Option (Effect Tagged) → Rebuilt → Type 0
ShowsNext None None next = Unit {0}
ShowsNext None (Some effect) next = ⊥
ShowsNext (Some p) None next = ⊥
ShowsNext (Some p) (Some effect) next = Rebuilds p.tables next

-- the disk stands for the changes that were taken since the position `from`, and for the one in doubt; and the tables show what it has
pub record Keeps (first : Durable Tagged) (from t0 : ℕ) (taken : List Took) (doubt : Option (Effect Tagged)) (disk : Told) (s : MirrorState) : Type 0 where
  pub now : Rebuilt
  pub next : Rebuilt
  pub held : IsHeld first from t0 s.journal disk now next taken doubt
  pub shows : Rebuilds s.parts now
  pub shows_next : ShowsNext s.pending doubt next
  pub position : s.position ≡ from + length taken

-- it stands for some changes
pub record KeepsSome (disk : Told) (s : MirrorState) : Type 0 where
  pub first : Durable Tagged
  pub from : ℕ
  pub t0 : ℕ
  pub taken : List Took
  pub doubt : Option (Effect Tagged)
  pub keeps : Keeps first from t0 taken doubt disk s

-- these bytes mean what a mirror keeps, and a crash since the second of the calls behind these leaves that
pub record IsOpened (bytes : List ℕ) (calls : ℕ) (disk : Told) (s : MirrorState) : Type 0 where
  pub had : Mirrored
  pub mirrored : mirrored_from bytes ≡ Some had
  pub t0 : ℕ
  pub soon : t0 ≤ calls + 2
  pub keeps : Keeps had.kept had.position t0 [] None disk s

-- the state is what these bytes mean, and its journal is of their shape and epoch
pub record IsRead (bytes : List ℕ) (s : MirrorState) : Type 0 where
  pub had : Mirrored
  pub rebuilt : Rebuilt
  pub journal : Journal
  pub mirrored : mirrored_from bytes ≡ Some had
  pub reads : mirror_reading bytes ≡ MirrorReading.Reads journal rebuilt had.position
  pub shape : s.journal.shape ≡ journal.shape
  pub epoch : s.journal.seat.epoch ≡ journal.epoch
  pub shows : Rebuilds s.parts rebuilt
  pub fills : recovered bytes rebuilt ≡ had.kept
  pub position : s.position ≡ had.position
  pub quiet : s.pending ≡ None

-- ---- the parts of the program

abbrev pub state_of : Inside → MirrorState
state_of inside = record { journal = inside.journal; parts = inside.parts; position = inside.position; pending = inside.pending }

-- on any disk, with the tables beside
pub record IsStanding (size : ℕ) (inside : Inside) : Type 0 where
  pub upright : IsUpright size (state_of inside)
  pub beside : IsBeside inside.journal.shape inside.parts inside.beside

-- what a mirror keeps at all times
pub record IsWhole (origin disk : Told) (inside : Inside) : Type 0 where
  pub size : disk.size ≡ origin.size
  pub honest : disk.honest ≡ origin.honest
  pub later : origin.calls ≤ disk.calls
  pub faults : origin.faults ≤ disk.faults
  pub standing : IsStanding disk.size inside
  pub keeps : IsTrue disk.honest → KeepsSome disk (state_of inside)
