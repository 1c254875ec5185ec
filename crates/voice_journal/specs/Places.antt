-- What contracts see of a journal.
--     JournalValue      its shape, where it writes next, what is in doubt, and whether the other area's head is known to be closed
--     landed, commit_place, closed_after      what a landing does, and where
use Rattle.std.specs.Prelude.{ℕ, ◌+◌, ◌<◌, ◌≤◌, ◌^◌, Bool, true, false, not, Option}
use Rattle.voice_units.specs.declared.shapes.Shape.{Shape}
use Rattle.voice_journal.specs.declared.seats.Seat.{Seat}
use Rattle.voice_journal.specs.declared.seats.Doubt.{Doubt}
use Rattle.voice_journal.specs.declared.seats.Doubt.TheVariants.{Record, Area}

pub record JournalValue : Type 0 where
  pub shape : Shape
  pub seat : Seat
  pub doubt : Option Doubt
  pub is_closed : Bool

-- where area A or B begins
abbrev pub area_start : Shape → Bool → ℕ
area_start shape false = 64
area_start shape true = 64 + shape.area

-- where the journal writes once what is in doubt has landed
abbrev pub landed : Seat → Doubt → Seat
landed seat (Record len) = record seat { gate = seat.gate + (5 + len) }
landed seat (Area gate) = record { second = not seat.second; epoch = seat.epoch + 1; gate = gate }

-- the byte of the disk whose gate commits it: the one behind the records, or the other area's head gate
abbrev pub commit_place : Shape → Seat → Doubt → ℕ
commit_place shape seat (Record len) = area_start shape seat.second + seat.gate
commit_place shape seat (Area gate) = area_start shape (not seat.second)

-- after a switch the other area's head is the one that was current
abbrev pub closed_after : Bool → Doubt → Bool
closed_after is_closed (Record len) = is_closed
closed_after is_closed (Area gate) = false

-- the next gate, and the gate behind what is in doubt, lie in the area
abbrev pub FitsIn : Shape → Seat → Doubt → Type 0
FitsIn shape seat (Record len) = seat.gate + 5 + len < shape.area
FitsIn shape seat (Area gate) = (16 ≤ gate) × (gate < shape.area) × (seat.epoch < 2 ^ 48)
