-- When a disk stands for a state.
--     Gives disk r b s      the records of r rebuild b, which each image of now fills to what the state keeps
--     StandsSure, StandsUnsure      nothing is in doubt;  a crash leaves the state before a change, or the one after it
--     StandsBy doubt, StandsAt      the one or the other, by what is in doubt;  by the state
--     ArePast t0 history disk      the moments of the entries lie in the disk's past
--     IsHeld first tapes t0 journal disk b after history      the disk stands for the last state, and what a crash leaves was held
--     first_state bytes r b      the state that a disk of these bytes opens as
--     IsSound journal bytes b s      b keeps what replay keeps, and these bytes fill it to what the state keeps
--     IsHonest disk      what the model of disks says of a disk at one moment
--     IsLater old new      two moments of an honest disk
use Rattle.std.specs.Prelude.{◌≡◌, ℕ, ◌-◌, ◌≤◌, List, length, Option, Some, None}
use Rattle.voice_outside.specs.Disk.{Told, Now}
use Rattle.disk_areas.specs.Areas.{Journal}
use Rattle.voice_journal.specs.Places.{JournalValue}
use Rattle.voice_journal.specs.Stands.{Stands, StandsInDoubt}
use Rattle.voice_model.specs.State.{State, Pending, opened}
use Rattle.voice_model.specs.Step as step
use Rattle.voice_model.specs.Replay.{Rebuilt, recovered}
use Rattle.voice_model.specs.Image.{recovered_from}
use Rattle.voice_model.specs.Valid.{IsRebuilt}
use Rattle.voice_model.specs.Places.{IsPlaced, AllUsed}
use Rattle.voice_model.specs.Crash.{moment_of, Held}
use Rattle.voice_model.specs.declared.calls.Entry.{Entry}
use Rattle.recovery.specs.Shown.{plain_sample}
use Rattle.journal_readings.specs.Readings.{Rebuild}

-- the records of r rebuild b, and each image that a crash may leave now fills b to what the state keeps
pub record Gives (disk : Told) (r : Journal) (b : Rebuilt) (s : State) : Type 0 where
  pub rebuilds : Rebuild r b
  pub form : b.form ≡ s.form
  pub fills : Now disk (λ image. recovered image b ≡ s.kept)

-- nothing is in doubt
pub record StandsSure (journal : JournalValue) (disk : Told) (b : Rebuilt) (s : State) : Type 0 where
  pub reading : Journal
  pub stands : Stands journal disk reading
  pub gives : Gives disk reading b s

-- a change is in doubt: a crash leaves the state before it, or the one after it
pub record StandsUnsure (journal : JournalValue) (disk : Told) (b after : Rebuilt) (s : State) : Type 0 where
  pub old : Journal
  pub new : Journal
  pub stands : StandsInDoubt journal disk old new
  pub before : Gives disk old b s
  pub landing : Gives disk new after (step.landed s)

-- b is what the current records rebuild, `after` what they rebuild once what is in doubt has landed
abbrev pub StandsBy : Option Pending → JournalValue → Told → Rebuilt → Rebuilt → State → Type 0
StandsBy None journal disk b after s = StandsSure journal disk b s
StandsBy (Some pending) journal disk b after s = StandsUnsure journal disk b after s

-- the disk stands for the state
abbrev pub StandsAt : JournalValue → Told → Rebuilt → Rebuilt → State → Type 0
StandsAt journal disk b after s = StandsBy s.doubt journal disk b after s

-- the moments of the entries lie in the disk's past
abbrev pub ArePast : ℕ → List Entry → Told → Type 0
ArePast t0 history disk = (k : ℕ) → k ≤ length history → moment_of t0 history k ≤ disk.calls

-- what holds on an honest disk after each call: the disk stands for the state after the history, and what a crash may have left since an entry recovers that entry's state or a later one
pub record IsHeld (first : State) (tapes : List (List ℕ)) (t0 : ℕ) (journal : JournalValue) (disk : Told) (b after : Rebuilt) (history : List Entry) : Type 0 where
  pub stands : StandsAt journal disk b after (step.after first tapes history)
  pub held : Held recovered_from disk.may_leave first tapes t0 history
  pub past : ArePast t0 history disk

-- the state that a disk of these bytes opens as, where they read as r, whose records rebuild b
abbrev pub first_state : List ℕ → Journal → Rebuilt → State
first_state bytes r b = opened (recovered bytes b) (r.shape.area - 1 - r.gate) r.epoch b.form

-- b keeps what replay keeps, in the shape of the journal and the form of the state's area, and these bytes fill it to what the state keeps
pub record IsSound (journal : JournalValue) (bytes : List ℕ) (b : Rebuilt) (s : State) : Type 0 where
  pub valid : IsRebuilt plain_sample b
  pub placed : IsPlaced b
  pub used : AllUsed b
  pub in_shape : b.shape ≡ journal.shape
  pub form : b.form ≡ s.form
  pub fills : recovered bytes b ≡ s.kept

-- a crash since a later moment is one since an earlier, and what a read returns is an image of now
pub record IsHonest (disk : Told) : Type 0 where
  pub since : (t u : ℕ) (image : List ℕ) → t ≤ u → disk.may_leave u image → disk.may_leave t image
  pub present : disk.may_leave disk.calls disk.bytes

-- two moments of an honest disk
pub record IsLater (old new : Told) : Type 0 where
  pub later : old.calls ≤ new.calls
  pub was : IsHonest old
  pub is : IsHonest new
