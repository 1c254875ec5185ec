-- Ropes by number in the table of ropes.
--     pieces_here ropes id      the pieces of a rope, none where it is not live
--     first_missing ropes ids      the first number that is not live
--     pieces_joined ropes ids, length_joined ropes ids, spots_joined ropes ids      the pieces of ropes, one after another, as they stand;  their length;  the places of their samples
use Rattle.std.specs.Prelude.{ℕ, ◌+◌, cond, List, [], ◌∷◌, ◌++◌, Option, Some, None, is_some, unwrap_or}
use Rattle.voice_units.specs.declared.pieces.Piece.{Piece}
use Rattle.voice_units.specs.Spots.{Spot, spots_of, samples_in}
use Rattle.rope_table.specs.declared.ropes.Rope.{Rope}
use Rattle.rope_table.specs.Table.{pieces_at}

-- the pieces of a rope, none where it is not live
abbrev pub pieces_here : List Rope → ℕ → List Piece
pieces_here ropes id = unwrap_or (pieces_at ropes id) []

-- the first number that is not live
abbrev pub first_missing : List Rope → List ℕ → Option ℕ
first_missing ropes [] = None
first_missing ropes (id ∷ ids) = cond (is_some (pieces_at ropes id)) (first_missing ropes ids) (Some id)

-- the pieces of ropes, one after another, as they stand
abbrev pub pieces_joined : List Rope → List ℕ → List Piece
pieces_joined ropes [] = []
pieces_joined ropes (id ∷ ids) = pieces_here ropes id ++ pieces_joined ropes ids

-- the length of ropes, one after another
abbrev pub length_joined : List Rope → List ℕ → ℕ
length_joined ropes [] = 0
length_joined ropes (id ∷ ids) = samples_in (pieces_here ropes id) + length_joined ropes ids

-- the places of their samples
abbrev pub spots_joined : List Rope → List ℕ → List Spot
spots_joined ropes [] = []
spots_joined ropes (id ∷ ids) = spots_of (pieces_here ropes id) ++ spots_joined ropes ids
