-- When a journal stands on a disk, and the steps of a change.
--     Stands, StandsInDoubt      whatever a crash leaves now reads so;  reads as before or as after, by one gate
--     IsReady, IsKept, IsWhole      the commit's gate is all that is missing;  a step that commits nothing;  what was written is settled
use Rattle.std.specs.Prelude.{◌≡◌, None, Some}
use Rattle.voice_units.specs.declared.shapes.Shape.{Shape}
use Rattle.voice_outside.specs.Disk.{Told, Now, Leaves}
use Rattle.disk_areas.specs.Areas.{Journal}
use Rattle.voice_journal.specs.Readings.{Reads, OtherIs, IsPending, Without}
use Rattle.voice_journal.specs.Places.{JournalValue, area_start, landed, commit_place, closed_after}
use Rattle.voice_journal.specs.declared.seats.Seat.{Seat}
use Rattle.voice_journal.specs.declared.seats.Doubt.{Doubt}

-- the place is where the reading's next record goes
pub record IsAt (shape : Shape) (seat : Seat) (r : Journal) : Type 0 where
  pub shape_is : shape ≡ r.shape
  pub start : area_start shape seat.second ≡ r.start
  pub epoch : seat.epoch ≡ r.epoch
  pub gate : seat.gate ≡ r.gate

-- a journal that is not in doubt: whatever a crash leaves now reads so
pub record Stands (journal : JournalValue) (disk : Told) (r : Journal) : Type 0 where
  pub at : IsAt journal.shape journal.seat r
  pub sure : journal.doubt ≡ None
  pub each : Now disk (λ image. Reads image r × OtherIs journal.is_closed r image)

-- whatever a crash leaves now is whole but for the gate that commits, and reads as before or as after by that gate alone
pub record IsReady (journal : JournalValue) (doubt : Doubt) (disk : Told) (r new : Journal) : Type 0 where
  pub at : IsAt journal.shape journal.seat r
  pub next : IsAt journal.shape (landed journal.seat doubt) new
  pub each : Now disk (IsPending (commit_place journal.shape journal.seat doubt) r new (closed_after journal.is_closed doubt))

-- a journal in doubt
pub record StandsInDoubt (journal : JournalValue) (disk : Told) (r new : Journal) : Type 0 where
  pub doubt : Doubt
  pub unsure : journal.doubt ≡ Some doubt
  pub ready : IsReady journal doubt disk r new

-- a step that commits nothing
pub record IsKept (journal : JournalValue) (old new : Told) (r : Journal) : Type 0 where
  pub stands : Stands journal new r
  pub crash : Leaves old new (Without r old)

-- what was written is settled, and the commit's gate is all that is missing
pub record IsWhole (journal : JournalValue) (doubt : Doubt) (disk : Told) (r new : Journal) : Type 0 where
  pub ready : IsReady journal doubt disk r new
  pub settled : Now disk (λ image. image ≡ disk.bytes)
