-- The bytes that a switch and a format write.
--     area_bytes epoch ps      an area from its second byte on
--     first_bytes shape      a new disk as far as the first record's gate
--     AreSpellable graces      graces that fit in 4 bytes
use Rattle.std.specs.Prelude.{ℕ, ◌<◌, ◌^◌, List, [], ◌∷◌, ◌++◌, replicate}
use Rattle.voice_units.specs.declared.shapes.Graces.{Graces}
use Rattle.voice_units.specs.declared.shapes.Shape.{Shape}
use Rattle.disk_areas.specs.Numbers.{number_bytes}
use Rattle.disk_areas.specs.Areas.{superblock}
use Rattle.voice_journal.specs.Readings.{frames}

-- an area from its second byte on
abbrev pub area_bytes : ℕ → List (List ℕ) → List ℕ
area_bytes epoch ps = replicate 7 0 ++ number_bytes 8 epoch ++ frames ps ++ 0 ∷ []

-- a new disk as far as the first record's gate, which is closed
abbrev pub first_bytes : Shape → List ℕ
first_bytes shape = superblock shape ++ (1 ∷ replicate 7 0) ++ number_bytes 8 1 ++ 0 ∷ []

-- graces that fit in 4 bytes
pub record AreSpellable (graces : Graces) : Type 0 where
  pub common : graces.common < 2 ^ 32
  pub held : graces.held < 2 ^ 32
  pub until : graces.until < 2 ^ 32
  pub listed : graces.listed < 2 ^ 32
