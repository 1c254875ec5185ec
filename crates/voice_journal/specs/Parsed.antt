-- What is read of a disk's parts.
--     placed      records with their places on the disk
--     IsSuperblock, IsDamage, IsCurrent, IsParsed      what the readers of the parts answer
use Rattle.std.specs.Prelude.{◌≡◌, ◌≢◌, ◌*◌, ◌+◌, ◌<◌, ◌≤◌, ◌^◌, ℕ, List, [], ◌∷◌, length, drop, slice_index, Bool, true, false}
use Rattle.voice_units.specs.declared.shapes.Shape.{Shape}
use Rattle.voice_outside.specs.Disk.{segment}
use Rattle.disk_areas.specs.Numbers.{number_at}
use Rattle.disk_areas.specs.Areas.{Record, Records, JournalReading, Head, journal_in, by_head, current_head, records_from}
use Rattle.voice_journal.specs.Readings.{record_at}
use Rattle.voice_journal.specs.Lent.{lent, AreWithin}
use Rattle.voice_journal.specs.Places.{area_start}
use Rattle.voice_journal.specs.declared.lists.Span.{Span}

-- records with the places of their gates on the disk
abbrev pub placed : ℕ → List Record → List Record
placed start [] = []
placed start (r ∷ rs) = record_at (start + r.at) r.payload ∷ placed start rs

-- an image of this size that begins with these bytes is damaged at a place of its superblock
abbrev pub IsDamage : List ℕ → ℕ → ℕ → Type 0
IsDamage front size place = (image : List ℕ) → length image ≡ size → segment image 0 64 ≡ front → journal_in image ≡ JournalReading.Damaged place

-- an image of this size that begins with these bytes has this shape, and reads as its heads say
abbrev pub IsSuperblock : List ℕ → ℕ → Shape → Type 0
IsSuperblock front size shape = (image : List ℕ) → length image ≡ size → segment image 0 64 ≡ front → journal_in image ≡ by_head shape image (current_head shape image)

-- the two heads of an image
pub record HasHeads (shape : Shape) (first second image : List ℕ) : Type 0 where
  pub within : 80 + shape.area ≤ length image
  pub first_is : segment image 64 16 ≡ first
  pub second_is : segment image (64 + shape.area) 16 ≡ second

abbrev pub head_of : Shape → Bool → ℕ → Head
head_of shape second epoch = record { start = area_start shape second; epoch = epoch }

-- what is known of the head that is not current
abbrev pub IsOther : Bool → ℕ → List ℕ → ℕ → Type 0
IsOther true start image epoch = slice_index image start ≢ 1
IsOther false start image epoch = number_at 8 (start + 8) image ≤ 2 ^ 48 → number_at 8 (start + 8) image < epoch

-- records that were read of an area which begins at that byte of the disk
pub record AreRead (start : ℕ) (area : List ℕ) (spans : List Span) (gate : ℕ) (rs : List Record) : Type 0 where
  pub records : records_from (length area) (length area) 16 (drop 16 area) ≡ Records.Sound rs gate
  pub show : lent area spans ≡ placed start rs
  pub inside : AreWithin gate spans
  pub from : 16 ≤ gate
  pub within : gate < length area
  pub few : 5 * length spans < length area
