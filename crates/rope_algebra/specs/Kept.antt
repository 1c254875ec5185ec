-- What lists of pieces keep.
--     LieInFiles ps      each piece ends at most at 2 ^ 30, where the longest voice file ends
--     IsKept ps      normal form inside the voice files
--     IsRope ps      so are the pieces of a rope, and its samples fit 32 bits
--     IsCounted ps n      the pieces of a rope of n samples
--     starts_from n ps      where pieces start behind n samples
--     first_len ps      the length of the first piece
--     IsPlaced ps starts n      the pieces of a rope of n samples, and where each starts if there are two or more
--     AddsSpots old new ss      what keeps stays, and these places come behind
--     IsFirstStretch block at ps p      the first stretch behind the first `at` samples
use Rattle.std.specs.Prelude.{◌≡◌, ℕ, ◌+◌, ◌%◌, ◌<◌, ◌≤◌, ◌^◌, List, [], ◌∷◌, ◌++◌, length, take, drop}
use Rattle.voice_units.specs.declared.pieces.Piece.{Piece}
use Rattle.voice_units.specs.Spots.{Spot, spots_in, spots_of, samples_in, stretches, IsNormal}

-- each piece ends at most at 2 ^ 30, where the longest voice file ends
abbrev pub LieInFiles : List Piece → Type 0
LieInFiles [] = Unit {0}
LieInFiles (p ∷ ps) = (p.from + p.len ≤ 2 ^ 30) × LieInFiles ps

-- pieces in normal form that lie in their files
pub record IsKept (ps : List Piece) : Type 0 where
  pub normal : IsNormal ps
  pub ends : LieInFiles ps

-- the pieces of a rope: they are kept, and its length fits 32 bits
pub record IsRope (ps : List Piece) : Type 0 where
  pub normal : IsNormal ps
  pub ends : LieInFiles ps
  pub total : samples_in ps < 2 ^ 32

-- the pieces of a rope of n samples
pub record IsCounted (ps : List Piece) (n : ℕ) : Type 0 where
  pub normal : IsNormal ps
  pub ends : LieInFiles ps
  pub total : n ≡ samples_in ps
  pub fits : n < 2 ^ 32

-- how many samples stand before each piece, behind n samples
abbrev pub starts_from : ℕ → List Piece → List ℕ
starts_from n [] = []
starts_from n (p ∷ ps) = n ∷ starts_from (n + p.len) ps

-- how long the first piece is, 0 where there is none
abbrev pub first_len : List Piece → ℕ
first_len [] = 0
first_len (p ∷ ps) = p.len

-- the pieces of a rope of n samples, and where each starts if there are two or more
pub record IsPlaced (ps : List Piece) (starts : List ℕ) (n : ℕ) : Type 0 where
  pub normal : IsNormal ps
  pub ends : LieInFiles ps
  pub total : n ≡ samples_in ps
  pub fits : n < 2 ^ 32
  pub placed : 2 ≤ length ps → starts ≡ starts_from 0 ps

-- the new pieces are kept, and name the places of the old ones and then these
pub record AddsSpots (old new : List Piece) (ss : List Spot) : Type 0 where
  pub normal : IsNormal new
  pub ends : LieInFiles new
  pub spots : spots_of new ≡ spots_of old ++ ss

-- the first stretch behind the first `at` samples: it has some, it lies in one block, and the others come behind it
pub record IsFirstStretch (block at : ℕ) (ps : List Piece) (p : Piece) : Type 0 where
  pub some : 1 ≤ p.len
  pub within : at + p.len ≤ samples_in ps
  pub inside : p.from % block + p.len ≤ block
  pub ends : p.from + p.len ≤ 2 ^ 30
  pub spots : take p.len (drop at (spots_of ps)) ≡ spots_in p
  pub rest : stretches block (drop at (spots_of ps)) ≡ p ∷ stretches block (drop (at + p.len) (spots_of ps))
