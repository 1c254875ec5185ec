-- A rope as the places of its samples, and its pieces, stretches and windows.
--     runs cut ss      the maximal runs of one file with consecutive places, also cut before each place at which `cut` is true
--     pieces_of ss, stretches block ss      its pieces;  its pieces cut at the ends of blocks
--     spots_of ps      the places that pieces name, in order
--     IsNormal ps      no piece is empty, and none is continued by the next one
--     slice, replaced      the n elements from s;  a list in place of the n elements from s
--     window block ss heard      how many samples the next window takes
use Rattle.std.specs.Prelude.{◌≡◌, ℕ, zero, suc, ◌+◌, ◌%◌, ◌≤◌, Bool, false, ◌&&◌, not, cond, ◌==◌, List, [], ◌∷◌, ◌++◌, take, drop}
use Rattle.voice_units.specs.declared.pieces.Piece.{Piece}

-- where a sample lies: the voice file, and the place in it
pub record Spot : Type 0 where
  pub file : ℕ
  pub place : ℕ

-- the place behind it in the same file
abbrev pub next_spot : Spot → Spot
next_spot s = record { file = s.file; place = s.place + 1 }

-- the n places of a file from one on
abbrev pub spots_from : ℕ → ℕ → ℕ → List Spot
spots_from file from zero = []
spots_from file from (suc n) = record { file = file; place = from } ∷ spots_from file (from + 1) n

-- the places that a piece names
abbrev pub spots_in : Piece → List Spot
spots_in p = spots_from p.file p.from p.len

-- the places that pieces name, in order
abbrev pub spots_of : List Piece → List Spot
spots_of [] = []
spots_of (p ∷ ps) = spots_in p ++ spots_of ps

-- whether a place is followed by the first one of a piece
abbrev pub comes_before : Spot → Piece → Bool
comes_before s p = (s.file == p.file) && (s.place + 1 == p.from)

-- a piece of one sample
abbrev pub lone : Spot → Piece
lone s = record { file = s.file; from = s.place; len = 1 }

-- a piece, with the sample before it
abbrev pub longer : Spot → Piece → Piece
longer s p = record { file = s.file; from = s.place; len = suc p.len }

-- runs, with one more sample in front; a run does not go on over a place at which `cut` is true
abbrev pub in_front : (ℕ → Bool) → Spot → List Piece → List Piece
in_front cut s [] = lone s ∷ []
in_front cut s (p ∷ ps) = cond (comes_before s p && not (cut p.from)) (longer s p ∷ ps) (lone s ∷ p ∷ ps)

abbrev pub runs : (ℕ → Bool) → List Spot → List Piece
runs cut [] = []
runs cut (s ∷ ss) = in_front cut s (runs cut ss)

-- nothing is cut
abbrev pub nowhere : ℕ → Bool
nowhere place = false

-- a place at which a block begins
abbrev pub begins_block : ℕ → ℕ → Bool
begins_block block place = place % block == 0

-- the pieces of a rope: the maximal runs of one file with consecutive places
abbrev pub pieces_of : List Spot → List Piece
pieces_of ss = runs nowhere ss

-- the stretches: the maximal runs of one file with consecutive places inside one block
abbrev pub stretches : ℕ → List Spot → List Piece
stretches block ss = runs (begins_block block) ss

-- one piece is not continued by the next
abbrev pub IsContinued : Piece → Piece → Type 0
IsContinued p q = (p.file ≡ q.file) × (p.from + p.len ≡ q.from)

-- no piece is empty, and none is continued by the next one
abbrev pub IsNormal : List Piece → Type 0
IsNormal [] = Unit {0}
IsNormal (p ∷ []) = 1 ≤ p.len
IsNormal (p ∷ q ∷ ps) = (1 ≤ p.len) × (¬ IsContinued p q) × IsNormal (q ∷ ps)

-- the n elements from s
abbrev pub slice : {A : Type 0} → List A → ℕ → ℕ → List A
slice xs s n = take n (drop s xs)

-- the elements before s, then others, then the elements from s + n on
abbrev pub replaced : {A : Type 0} → List A → ℕ → ℕ → List A → List A
replaced xs s n ys = slice xs 0 s ++ ys ++ drop (s + n) xs

-- how many samples pieces name
abbrev pub samples_in : List Piece → ℕ
samples_in [] = 0
samples_in (p ∷ ps) = p.len + samples_in ps

-- a window takes the samples of the first four stretches of what is not heard yet
abbrev pub window : ℕ → List Spot → ℕ → ℕ
window block ss heard = samples_in (take 4 (stretches block (drop heard ss)))
