-- Tagged samples: each sample with the voice file and the place that it was recorded at.
--     recording file bytes      the rope that a recording makes
--     bytes_of, spots_in_rope      the bytes of a rope;  where its samples lie
--     pieces_in      its pieces
use Rattle.std.specs.Prelude.{ℕ, ◌+◌, List, [], ◌∷◌, map}
use Rattle.voice_units.specs.Spots.{Spot, pieces_of}
use Rattle.voice_units.specs.declared.pieces.Piece.{Piece}

-- a sample, the voice file that it belongs to, and its place there
pub record Tagged : Type 0 where
  pub byte : ℕ
  pub file : ℕ
  pub place : ℕ

abbrev pub spot_of : Tagged → Spot
spot_of t = record { file = t.file; place = t.place }

abbrev pub bytes_of : List Tagged → List ℕ
bytes_of rope = map (λ t. t.byte) rope

abbrev pub spots_in_rope : List Tagged → List Spot
spots_in_rope rope = map spot_of rope

-- the maximal runs of one file with consecutive places
abbrev pub pieces_in : List Tagged → List Piece
pieces_in rope = pieces_of (spots_in_rope rope)

-- bytes as the samples of a file from a place on
abbrev pub recorded_from : ℕ → ℕ → List ℕ → List Tagged
recorded_from file place [] = []
recorded_from file place (b ∷ bytes) = record { byte = b; file = file; place = place } ∷ recorded_from file (place + 1) bytes

-- a recording is kept as the voice file of its own number
abbrev pub recording : ℕ → List ℕ → List Tagged
recording number bytes = recorded_from number 0 bytes
