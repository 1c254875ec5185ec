-- Laws that crates above rest on.
use Rattle.std.specs.Prelude.{ℕ, ◌≤◌, ◌<◌, ◌⊎◌, Bool, List, length}
use Rattle.voice_outside.specs.Disk.{AgreesOutside}
use Rattle.disk_areas.specs.Areas.{Journal}
use Rattle.voice_journal.specs.Readings.{Reads, OtherIs, IsPending, data_start}

-- A change behind the areas leaves what is known of an image: what it reads as, and what it reads as once a gate is opened.
pub record BlocksLieApart : Type 0 where
  pub sure : (is_closed : Bool) (a b : List ℕ) (r : Journal) (at n : ℕ) → data_start r.shape ≤ at → AgreesOutside at n a b → Reads a r × OtherIs is_closed r a → Reads b r × OtherIs is_closed r b
  pub unsure : (is_closed : Bool) (place : ℕ) (a b : List ℕ) (r s : Journal) (at n : ℕ) → data_start r.shape ≤ at → data_start s.shape ≤ at → place < at → place < length a → AgreesOutside at n a b → IsPending place r s is_closed a → IsPending place r s is_closed b

-- an image in doubt reads as before or as after
abbrev pub DoubtReads : Type 0
DoubtReads = (place : ℕ) (old new : Journal) (is_closed : Bool) (image : List ℕ) → IsPending place old new is_closed image → Reads image old ⊎ Reads image new
