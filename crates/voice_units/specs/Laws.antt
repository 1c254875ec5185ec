-- The laws of pieces, windows and blocks, as statements.
--     PiecesOfARope      the pieces of a rope are in normal form, name its places, and are the only ones that do
--     WindowsOfARope      a window has at most four stretches, no longer one has, and it lies in its passage
--     DistinctPairs      the count of distinct blocks depends only on which there are
use Rattle.std.specs.Prelude.{◌≡◌, ℕ, ◌+◌, ◌<◌, ◌≤◌, List, ◌++◌, length, take, drop}
use Rattle.voice_units.specs.declared.pieces.Piece.{Piece}
use Rattle.voice_units.specs.Spots.{Spot, spots_from, spots_of, pieces_of, IsNormal, stretches, window}
use Rattle.voice_units.specs.Blocks.{BlockPair, has_pair, distinct}

pub record PiecesOfARope : Type 0 where
  -- the pieces of a rope are in normal form
  pub normal : (ss : List Spot) → IsNormal (pieces_of ss)
  -- they name the rope's places
  pub places : (ss : List Spot) → spots_of (pieces_of ss) ≡ ss
  -- no other list in normal form does
  pub same : (ps : List Piece) (ss : List Spot) → IsNormal ps → spots_of ps ≡ ss → ps ≡ pieces_of ss
  -- pieces joined name the places joined
  pub joined : (ps qs : List Piece) → spots_of (ps ++ qs) ≡ spots_of ps ++ spots_of qs
  -- the front and the rest of a piece
  pub front : (file from m n : ℕ) → take m (spots_from file from (m + n)) ≡ spots_from file from m
  pub rest : (file from m n : ℕ) → drop m (spots_from file from (m + n)) ≡ spots_from file (from + m) n

pub record WindowsOfARope : Type 0 where
  -- at most four stretches
  pub few : (block : ℕ) (ss : List Spot) (heard : ℕ) → length (stretches block (take (window block ss heard) (drop heard ss))) ≤ 4
  -- a longer front of the rest has more
  pub longest : (block : ℕ) (ss : List Spot) (heard n : ℕ) → window block ss heard < n → n ≤ length (drop heard ss) → 4 < length (stretches block (take n (drop heard ss)))
  -- it lies in the passage
  pub within : (block : ℕ) (ss : List Spot) (heard : ℕ) → heard ≤ length ss → heard + window block ss heard ≤ length ss

pub record DistinctPairs : Type 0 where
  -- no pair comes or goes
  pub kept : (ps : List BlockPair) (q : BlockPair) → has_pair (distinct ps) q ≡ has_pair ps q
  -- two lists with the same pairs have equally many distinct ones
  pub count : (ps qs : List BlockPair) → ((q : BlockPair) → has_pair ps q ≡ has_pair qs q) → length (distinct ps) ≡ length (distinct qs)
