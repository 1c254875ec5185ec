-- How many blocks an open recording has, by the map.
use Rattle.std.proofs.Common.{◌≡◌, ℕ, zero, suc, ◌+◌, ◌≤◌, ◌<◌, ◌^◌, ◌==◌, Bool, true, false, cond, List, [], ◌∷◌, length, Option, Some, None, refl, sym, ◌∙◌, ap, arith}
use Rattle.std.specs.Prelude.{nat_lt}
use Rattle.std.proofs.lemmas.Bool.{ltb-true, ltb-false}
use Rattle.voice_units.specs.Blocks.{BlockPair}
use Rattle.voice_units.specs.declared.pieces.Piece.{Piece}
use Rattle.voice_model.specs.Replay.{Rebuilt}
use Rattle.voice_blocks.specs.Holders.{Holders, holder_at, open_in, block_of, next_index}
use Rattle.voice_blocks.specs.declared.owner.Owner.{Owner}
use Rattle.voice_blocks.specs.declared.owner.Owner.TheVariants.{Taking}
use Rattle.voice_blocks.specs.declared.owner.Holder.{Holder}
use Rattle.voice_blocks.proofs.TakeLemmas.{next_index-le, next_index-above}
use Rattle.recovery.specs.declared.parts.Parts.{Parts}
use Rattle.running_tables.specs.Running.{taken, GivesJust, IsGiven, Runs}
use Rattle.open_recordings.specs.Blocks.{HasBlocks}

abbrev pub index_in : Option Holder → ℕ
index_in None = 0
index_in (Some h) = h.index

-- the holders, with one address free
abbrev emptied : Holders → ℕ → Holders
emptied [] a = []
emptied (o ∷ hs) zero = None ∷ hs
emptied (o ∷ hs) (suc a) = o ∷ emptied hs a

empty_size : (hs : Holders) (a : ℕ) → length (emptied hs a) ≡ length hs
empty_size [] a = refl
empty_size (o ∷ hs) zero = refl
empty_size (o ∷ hs) (suc a) = ap suc (empty_size hs a)

empty_open : (hs : Holders) (a : ℕ) (h : Holder) → holder_at hs a ≡ Some h → open_in (emptied hs a) ≡ suc (open_in hs)
empty_open [] a h e = cc
empty_open (None ∷ hs) zero h e = cc
empty_open (Some g ∷ hs) zero h e = refl
empty_open (None ∷ hs) (suc a) h e = ap suc (empty_open hs a h e)
empty_open (Some g ∷ hs) (suc a) h e = empty_open hs a h e

empty_other : (hs : Holders) (a c : ℕ) → ¬ (c ≡ a) → holder_at (emptied hs a) c ≡ holder_at hs c
empty_other [] a c apart = refl
empty_other (o ∷ hs) zero zero apart = absurd (apart refl)
empty_other (o ∷ hs) zero (suc c) apart = refl
empty_other (o ∷ hs) (suc a) zero apart = refl
empty_other (o ∷ hs) (suc a) (suc c) apart = empty_other hs a c (λ e. apart (ap suc e))

open_fits : (hs : Holders) → open_in hs ≤ length hs
open_fits [] = omega arith
open_fits (None ∷ hs) = let rest = open_fits hs in omega (arith, rest)
open_fits (Some h ∷ hs) = let rest = open_fits hs in omega (arith, rest)

-- blocks that have addresses, and the free addresses, are no more than all addresses
pub blocks_fit : (o : Owner) (n : ℕ) (hs : Holders) → ((k : ℕ) → k < n → IsGiven hs (block_of o k)) → n + open_in hs ≤ length hs
blocks_fit o zero hs given = let fits = open_fits hs in omega (arith, fits)
blocks_fit o (suc n) hs given =
    let size = empty_size hs at in
    let free = empty_open hs at (block_of o n) held in
    let fewer = blocks_fit o n (emptied hs at) still in
    omega (arith, fewer, size, free)
  where
    at : ℕ
    at = (given n (omega arith)).0

    held : holder_at hs at ≡ Some (block_of o n)
    held = (given n (omega arith)).1

    still : (k : ℕ) → k < n → IsGiven (emptied hs at) (block_of o k)
    still k less =
        let own = given k (omega (arith, less)) in
        (own.0, empty_other hs at own.0 (λ e. let same : k ≡ n = ap index_in (sym own.1 ∙ ap (holder_at hs) e ∙ held) in omega (arith, less, same)) ∙ own.1)

-- ---- an open recording

module _ (hs : Holders) (pairs others : List BlockPair) (takings : List ℕ) (gives : GivesJust hs pairs others takings) (lane : ℕ) where
  -- its blocks have the indices below their number
  pub index_low : (a k : ℕ) → holder_at hs a ≡ Some (block_of (Taking lane) k) → k < taken takings lane
  index_low a k e = ltb-true k (taken takings lane) (gives.only a (block_of (Taking lane) k) e)

  -- its next block is the one behind them
  pub index_taken : next_index (Taking lane) hs ≡ taken takings lane
  index_taken = by (taken takings lane) refl
    where
      most : next_index (Taking lane) hs ≤ taken takings lane
      most = next_index-le (Taking lane) hs (taken takings lane) index_low

      by : (n : ℕ) → taken takings lane ≡ n → next_index (Taking lane) hs ≡ taken takings lane
      by zero e = omega (arith, most, e)
      by (suc n) e =
          let at = gives.recordings lane n (omega (arith, e)) in
          let above = next_index-above (Taking lane) hs at.0 n at.1 in
          omega (arith, most, e, above)

  pub taken_fit : taken takings lane + open_in hs ≤ length hs
  taken_fit = blocks_fit (Taking lane) (taken takings lane) hs (gives.recordings lane)

few_blocks : (b : Rebuilt) → b.shape.blocks ≤ 2 ^ 20
few_blocks b = by_test (b.shape.version == 1) b.shape.conditions.blocks_limit
  where
    by_test : (t : Bool) → b.shape.blocks ≤ cond t 65535 1048576 → b.shape.blocks ≤ 2 ^ 20
    by_test true h = omega (arith, h)
    by_test false h = omega (arith, h)

-- what all blocks of a lane's open recording are, and what else is free, is at most 2^20
pub taken_few : (held pledged : List (List Piece)) (takings : List ℕ) (parts : Parts) (b : Rebuilt) (lane : ℕ) → Runs held pledged takings parts b → taken takings lane + open_in parts.blocks.holders ≤ 2 ^ 20
taken_few held pledged takings parts b lane runs =
    let fit = taken_fit parts.blocks.holders _ _ takings runs.given lane in
    let size = runs.size in
    let few = few_blocks b in
    omega (arith, fit, size, few)

pub has_blocks : (held pledged : List (List Piece)) (takings : List ℕ) (parts : Parts) (b : Rebuilt) (lane : ℕ) → Runs held pledged takings parts b → HasBlocks parts.blocks.holders lane (taken takings lane)
has_blocks held pledged takings parts b lane runs =
    let few = taken_few held pledged takings parts b lane runs in
    record { given = runs.given.recordings lane; only = index_low parts.blocks.holders _ _ takings runs.given lane; most = omega (arith, few) }

-- a map has the blocks of an open recording in one number only
pub same_count : (held pledged : List (List Piece)) (takings : List ℕ) (others : List (List Piece)) (more : List (List Piece)) (counts : List ℕ) (parts : Parts) (b w : Rebuilt) (lane : ℕ) → Runs held pledged takings parts b → Runs others more counts parts w → taken takings lane ≡ taken counts lane
same_count held pledged takings others more counts parts b w lane runs also =
    sym (index_taken parts.blocks.holders _ _ takings runs.given lane) ∙ index_taken parts.blocks.holders _ _ counts also.given lane

-- where a block of an open recording has no address, it has no more blocks
pub no_more : (hs : Holders) (lane count index : ℕ) → HasBlocks hs lane count → ((a : ℕ) → ¬ (holder_at hs a ≡ Some (block_of (Taking lane) index))) → count ≤ index
no_more hs lane count index h none = by (nat_lt index count) refl
  where
    by : (t : Bool) → nat_lt index count ≡ t → count ≤ index
    by true e = let at = h.given index (ltb-true index count e) in absurd (none at.0 at.1)
    by false e = ltb-false index count e
