-- Readings of images, and how a call of the journal changes them.
--     Reads image r      the image reads as r
--     with_payload r p      the same with one payload more
--     switched r ps      the other area in its place, with these payloads
--     formatted shape      an empty journal
--     OtherIs, IsPending      what is known of the other area's head;  whatever stands at one byte, the image reads in one of two ways
--     SameElsewhere, NearOld, Without, Within, WithinLand      images within a call
use Rattle.std.specs.Prelude.{◌≡◌, ◌≢◌, ◌⊎◌, ℕ, ◌+◌, ◌*◌, ◌^◌, ◌<◌, ◌≤◌, List, [], ◌∷◌, ◌++◌, length, slice_index, Bool, true, false, cond, ◌==◌}
use Rattle.std.specs.Prelude.{Vec}
use Rattle.std.specs.declared.alloc.Global.{Global}
use Rattle.voice_units.specs.declared.shapes.Shape.{Shape}
use Rattle.voice_units.specs.Layout.{bytes_needed}
use Rattle.voice_outside.specs.Disk.{Told, AgreesOutside, IsTorn}
use Rattle.disk_areas.specs.Numbers.{number_at, number_bytes}
use Rattle.disk_areas.specs.Areas.{Journal, JournalReading, Record, journal_in}

abbrev pub Reads : List ℕ → Journal → Type 0
Reads image r = journal_in image ≡ JournalReading.Stands r

-- the bytes that a disk of a shape takes
abbrev pub extent : Shape → ℕ
extent shape = bytes_needed shape.block shape.blocks shape.area

-- where the data blocks begin
abbrev pub data_start : Shape → ℕ
data_start shape = 64 + 2 * shape.area

-- where the area that is not current begins
abbrev pub other_start : Journal → ℕ
other_start r = cond (r.start == 64) (64 + r.shape.area) 64

abbrev pub record_at : ℕ → List ℕ → Record
record_at at payload = record { at = at; payload = payload }

-- the same with one payload more
abbrev pub with_payload : Journal → List ℕ → Journal
with_payload r payload = record r { records = r.records ++ record_at r.gate payload ∷ []; gate = r.gate + 5 + length payload }

-- what is written behind a gate: the length, the payload and the next gate, closed
abbrev pub frame : List ℕ → List ℕ
frame payload = number_bytes 4 (length payload) ++ payload ++ 0 ∷ []

-- the records of these payloads, one behind the other
abbrev pub records_of : ℕ → List (List ℕ) → List Record
records_of at [] = []
records_of at (p ∷ ps) = record_at at p ∷ records_of (at + 5 + length p) ps

-- the bytes that they take, with their gates and lengths
abbrev pub framed_size : List (List ℕ) → ℕ
framed_size [] = 0
framed_size (p ∷ ps) = 5 + length p + framed_size ps

-- their bytes, the gates open
abbrev pub frames : List (List ℕ) → List ℕ
frames [] = []
frames (p ∷ ps) = 1 ∷ number_bytes 4 (length p) ++ p ++ frames ps

-- the other area in the current one's place, with these payloads
abbrev pub switched : Journal → List (List ℕ) → Journal
switched r ps = record { shape = r.shape; start = other_start r; epoch = r.epoch + 1; records = records_of 16 ps; gate = 16 + framed_size ps }

-- the journal of a disk that was just formatted
abbrev pub formatted : Shape → Journal
formatted shape = record { shape = shape; start = 64; epoch = 1; records = []; gate = 16 }

-- The other area's head is closed; or, where that is not known, its epoch could not win, whatever its gate is.
abbrev pub OtherIs : Bool → Journal → List ℕ → Type 0
OtherIs true r image = slice_index image (other_start r) ≢ 1
OtherIs false r image = number_at 8 (other_start r + 8) image ≤ 2 ^ 48 → number_at 8 (other_start r + 8) image < r.epoch

-- whatever stands at one byte, the image reads as the new journal where that byte is 1, and else as the old
pub record IsPending (place : ℕ) (old new : Journal) (is_closed : Bool) (image : List ℕ) : Type 0 where
  pub shut : (b : List ℕ) → AgreesOutside place 1 image b → slice_index b place ≢ 1 → Reads b old
  pub landed : (b : List ℕ) → AgreesOutside place 1 image b → slice_index b place ≡ 1 → Reads b new × OtherIs is_closed new b

-- ---- images within a call

-- equal outside the two areas
abbrev pub SameElsewhere : Shape → List ℕ → List ℕ → Type 0
SameElsewhere shape old new = AgreesOutside 64 (2 * shape.area) old new

-- equal outside the two areas to an image that the disk could leave
abbrev pub NearOld : Shape → Told → List ℕ → Type 0
NearOld shape old image = IsTorn 64 (2 * shape.area) old image

-- an image of a call that commits nothing
abbrev pub Without : Journal → Told → List ℕ → Type 0
Without r old image = Reads image r × NearOld r.shape old image

-- an image within a call that commits: as before it, or as after it and then with all that had been written elsewhere
abbrev pub Within : Journal → Journal → Told → List ℕ → Type 0
Within r new old image = Without r old image ⊎ (Reads image new × SameElsewhere r.shape old.bytes image)

-- an image within a landing
abbrev pub WithinLand : Journal → Journal → Told → List ℕ → Type 0
WithinLand r new old image = (Reads image r ⊎ Reads image new) × NearOld r.shape old image

-- the bytes of vectors
abbrev pub views : List (Vec ℕ Global) → List (List ℕ)
views [] = []
views (v ∷ vs) = v.items ∷ views vs
