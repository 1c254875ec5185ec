-- How much a manager holds.
--     samples_of ropes      how many samples live ropes have in all
--     samples_held ropes      the same, of ropes as the table keeps them
use Rattle.std.specs.Prelude.{ℕ, ◌+◌, List, [], ◌∷◌, length}
use Rattle.voice_units.specs.Spots.{samples_in}
use Rattle.voice_model.specs.State.{Live}
use Rattle.rope_table.specs.declared.ropes.Rope.{Rope}

-- how many samples live ropes have in all
abbrev pub samples_of : {A : Type 0} → List (Live A) → ℕ
samples_of [] = 0
samples_of (rope ∷ ropes) = length rope.samples + samples_of ropes

-- the same, of ropes as the table keeps them
abbrev pub samples_held : List Rope → ℕ
samples_held [] = 0
samples_held (rope ∷ ropes) = samples_in rope.pieces + samples_held ropes
