-- Readings of damaged images.
use Rattle.std.proofs.Common.{◌≡◌, ℕ, ap}
use Rattle.disk_areas.specs.Areas.{JournalReading}

-- the place of the damage, if any
place_of : ℕ → JournalReading → ℕ
place_of other (JournalReading.Damaged place) = place
place_of other (JournalReading.Stands r) = other

pub same_place : (a b : ℕ) → JournalReading.Damaged a ≡ JournalReading.Damaged b → a ≡ b
unfolding place_of
same_place a b e = ap (λ (r : JournalReading). place_of a r) e

-- an image that stands is not damaged
pub stands_not : (r : _) (place : ℕ) → JournalReading.Stands r ≡ JournalReading.Damaged place → ⊥
stands_not r place e = cc
