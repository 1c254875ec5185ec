-- The tapes that recordings take from.
use Rattle.std.specs.Prelude.{ℕ, ◌+◌, ◌^◌, ◌≤◌, ◌<◌, min, List, [], length, slice_index_or}
use Rattle.voice_units.specs.declared.pieces.Take.{Take}
use Rattle.voice_units.specs.Spots.{slice}

-- the bytes of a tape, none where there is no such tape
abbrev pub tape_of : List (List ℕ) → ℕ → List ℕ
tape_of tapes n = slice_index_or tapes n []

-- the bytes that a take names
abbrev pub taken : List (List ℕ) → Take → List ℕ
taken tapes take = slice (tape_of tapes take.tape) take.from take.len

-- the tape exists, and the interval lies in it
pub record HasTake (tapes : List (List ℕ)) (take : Take) : Type 0 where
  pub exists : take.tape < length tapes
  pub within : take.from + take.len ≤ length (tape_of tapes take.tape)

-- the whole tape; of one longer than 2^30 samples its first 2^30 + 1, enough for its recording to be refused
abbrev pub whole_of : List (List ℕ) → ℕ → Take
whole_of tapes n = record { tape = n; from = 0; len = min (length (tape_of tapes n)) (2 ^ 30 + 1) }
