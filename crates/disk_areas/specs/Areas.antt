-- What an image of a disk says, as far as the superblock, the heads, and the lengths of records go.
--     journal_in image      its shape, its current area and the records there; or the place of the damage
--     superblock shape      the first 64 bytes of a disk of this shape
use Rattle.std.specs.Prelude.{ℕ, zero, suc, ◌+◌, ◌-◌, ◌^◌, Bool, true, false, ◌&&◌, ◌||◌, cond, ◌==◌, nat_lt, nat_le, List, [], ◌∷◌, ◌++◌, length, replicate, take, drop, bytes_eq, Option, Some, None}
use Rattle.std.specs.List.{list_all}
use Rattle.voice_units.specs.declared.shapes.Shape.{Shape}
use Rattle.voice_units.specs.declared.shapes.Graces.{Graces}
use Rattle.voice_units.specs.Layout.{bytes_needed}
use Rattle.voice_units.specs.Tested.{shape_of}
use Rattle.voice_units.specs.Spots.{slice}
use Rattle.disk_areas.specs.Numbers.{spelled_number, number_at, number_bytes}

-- ---- the superblock

-- version 1 has one grace
unfoldable pub graces_in : ℕ → List ℕ → Graces
graces_in version image =
    let common = number_at 4 24 image in
    record {
      common = common;
      held = cond (version == 1) common (number_at 4 30 image);
      until = cond (version == 1) common (number_at 4 34 image);
      listed = cond (version == 1) common (number_at 4 38 image);
    }

abbrev pub if_fits : ℕ → Option Shape → Option Shape
if_fits size None = None
if_fits size (Some shape) = cond (nat_le (bytes_needed shape.block shape.blocks shape.area) size) (Some shape) None

unfoldable pub shape_in : ℕ → List ℕ → Option Shape
shape_in version image =
    if_fits (length image) (shape_of version (number_at 4 12 image) (number_at 4 16 image) (number_at 4 20 image) (graces_in version image) (number_at 2 28 image))

-- where the fields of a superblock end
abbrev pub superblock_end : ℕ → ℕ
superblock_end version = cond (version == 1) 30 42

-- the bytes behind the fields of a superblock are zero
unfoldable pub rest_is_zero : ℕ → List ℕ → Bool
rest_is_zero version image = list_all (λ b. b == 0) (slice image (superblock_end version) (64 - superblock_end version))

-- ---- the current area

pub record Head : Type 0 where
  pub start : ℕ
  pub epoch : ℕ

unfoldable pub is_head : List ℕ → ℕ → Bool
is_head image start = (number_at 1 start image == 1) && nat_le 1 (number_at 8 (start + 8) image) && nat_le (number_at 8 (start + 8) image) (2 ^ 48)

abbrev pub head_at : List ℕ → ℕ → Head
head_at image start = record { start = start; epoch = number_at 8 (start + 8) image }

-- of two heads that count the one of the greater epoch
abbrev pub newer : Bool → Bool → Head → Head → Option Head
newer false false a b = None
newer true false a b = Some a
newer false true a b = Some b
newer true true a b = cond (a.epoch == b.epoch) None (Some (record { start = cond (nat_lt a.epoch b.epoch) b.start a.start; epoch = cond (nat_lt a.epoch b.epoch) b.epoch a.epoch }))

unfoldable pub current_head : Shape → List ℕ → Option Head
current_head shape image = newer (is_head image 64) (is_head image (64 + shape.area)) (head_at image 64) (head_at image (64 + shape.area))

-- ---- its records

-- a record: where its gate stands in the area, and its payload
pub record Record : Type 0 where
  pub at : ℕ
  pub payload : List ℕ

-- the records of an area and where the gate behind them stands; or the gate of the first one whose length breaks the condition
pub data Records : Type 0 where
  Sound : List Record → ℕ → Records
  Broken : ℕ → Records

abbrev pub with_record : Record → Records → Records
with_record r (Records.Sound rs gate) = Records.Sound (r ∷ rs) gate
with_record r (Records.Broken at) = Records.Broken at

abbrev pub if_sound : Bool → ℕ → Records → Records
if_sound true at later = later
if_sound false at later = Records.Broken at

-- a gate that is not 1 ends the list
abbrev pub if_open : Bool → ℕ → Records → Records
if_open true at later = later
if_open false at later = Records.Sound [] at

-- the records from a place of an area on, whose bytes begin with `bytes`; there are at most `most`
unfoldable pub records_from : ℕ → ℕ → ℕ → List ℕ → Records
records_from zero area at bytes = Records.Sound [] at
records_from (suc most) area at [] = Records.Sound [] at
records_from (suc most) area at (gate ∷ rest) =
    let len = spelled_number (take 4 rest) in
    if_open (gate == 1) at
    (if_sound (nat_lt (at + 5 + len) area) at
    (with_record (record { at = at; payload = take len (drop 4 rest) }) (records_from most area (at + 5 + len) (drop (4 + len) rest))))

-- ---- the journal of an image

pub record Journal : Type 0 where
  pub shape : Shape
  pub start : ℕ
  pub epoch : ℕ
  pub records : List Record
  pub gate : ℕ

pub data JournalReading : Type 0 where
  Stands : Journal → JournalReading
  Damaged : ℕ → JournalReading

abbrev pub unless_damaged : Bool → ℕ → JournalReading → JournalReading
unless_damaged true place later = later
unless_damaged false place later = JournalReading.Damaged place

abbrev pub by_records : Shape → Head → Records → JournalReading
by_records shape head (Records.Sound records gate) = JournalReading.Stands (record { shape = shape; start = head.start; epoch = head.epoch; records = records; gate = gate })
by_records shape head (Records.Broken at) = JournalReading.Damaged (head.start + at)

abbrev pub by_head : Shape → List ℕ → Option Head → JournalReading
by_head shape image None = JournalReading.Damaged 64
by_head shape image (Some head) = by_records shape head (records_from shape.area shape.area 16 (slice image (head.start + 16) (shape.area - 16)))

abbrev pub by_shape : ℕ → List ℕ → Option Shape → JournalReading
by_shape version image None = JournalReading.Damaged 12
by_shape version image (Some shape) = unless_damaged (rest_is_zero version image) (superblock_end version) (by_head shape image (current_head shape image))

abbrev pub magic : List ℕ
magic = 86 ∷ 79 ∷ 73 ∷ 67 ∷ 68 ∷ 73 ∷ 83 ∷ 75 ∷ []

unfoldable pub journal_in : List ℕ → JournalReading
journal_in image =
    let version = number_at 4 8 image in
    unless_damaged (nat_le 64 (length image) && bytes_eq (take 8 image) magic) 0
    (unless_damaged ((version == 1) || (version == 2)) 8 (by_shape version image (shape_in version image)))

-- ---- the bytes that spell a shape

abbrev pub magic_and_numbers : Shape → List ℕ
magic_and_numbers shape =
    magic ++ number_bytes 4 shape.version ++ number_bytes 4 shape.block ++ number_bytes 4 shape.blocks ++ number_bytes 4 shape.area
    ++ number_bytes 4 shape.graces.common ++ number_bytes 2 shape.lanes

abbrev pub graces_by_class : Shape → List ℕ
graces_by_class shape = number_bytes 4 shape.graces.held ++ number_bytes 4 shape.graces.until ++ number_bytes 4 shape.graces.listed

unfoldable pub superblock : Shape → List ℕ
superblock shape = magic_and_numbers shape ++ cond (shape.version == 1) (replicate 34 0) (graces_by_class shape ++ replicate 22 0)
