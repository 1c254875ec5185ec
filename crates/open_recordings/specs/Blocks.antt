-- The blocks of an open recording and their addresses.
--     AreAt holders owner index addresses      the blocks of an owner from an index on have these addresses
--     AreAddresses holders owner from count addresses      so many blocks of an owner from an index on have these addresses
--     HasBlocks holders lane count      just so many blocks of a lane's open recording have an address, from index 0 on
--     without_from owner from end      what becomes of an address as an owner's blocks from an index on, up to another, are dropped
--     HandsOut lane old new      each address that is given out was given to the same block before, or is given to a block of the lane's open recording
use Rattle.std.specs.Prelude.{◌≡◌, ℕ, ◌+◌, ◌≤◌, ◌<◌, ◌^◌, ◌⊎◌, ◌&&◌, cond, nat_le, nat_lt, List, [], ◌∷◌, length, Option, Some, None}
use Rattle.voice_blocks.specs.Holders.{Holders, holder_at, block_of, same_owner}
use Rattle.voice_blocks.specs.declared.owner.Owner.{Owner}
use Rattle.voice_blocks.specs.declared.owner.Owner.TheVariants.{Taking}
use Rattle.voice_blocks.specs.declared.owner.Holder.{Holder}
use Rattle.running_tables.specs.Running.{IsGiven}

-- the blocks of an owner from an index on have these addresses
abbrev pub AreAt : Holders → Owner → ℕ → List ℕ → Type 0
AreAt holders owner index [] = Unit {0}
AreAt holders owner index (a ∷ rest) = (holder_at holders a ≡ Some (block_of owner index)) × AreAt holders owner (index + 1) rest

-- so many blocks of an owner from an index on have these addresses
pub record AreAddresses (holders : Holders) (owner : Owner) (from count : ℕ) (addresses : List ℕ) : Type 0 where
  pub many : length addresses ≡ count
  pub each : AreAt holders owner from addresses

-- just so many blocks of a lane's open recording have an address, from index 0 on; they are at most 2^20
pub record HasBlocks (holders : Holders) (lane count : ℕ) : Type 0 where
  pub given : (index : ℕ) → index < count → IsGiven holders (block_of (Taking lane) index)
  pub only : (a index : ℕ) → holder_at holders a ≡ Some (block_of (Taking lane) index) → index < count
  pub most : count ≤ 2 ^ 20

-- what becomes of an address as an owner's blocks from an index on, up to another, are dropped
abbrev pub without_from : Owner → ℕ → ℕ → Option Holder → Option Holder
without_from owner from end None = None
without_from owner from end (Some h) = cond (same_owner owner h.owner && (nat_le from h.index && nat_lt h.index end)) None (Some h)

-- each address that is given out was given to the same block before, or is given to a block of the lane's open recording
abbrev pub HandsOut : ℕ → Holders → Holders → Type 0
HandsOut lane old new = (a : ℕ) (h : Holder) → holder_at new a ≡ Some h → (holder_at old a ≡ Some h) ⊎ (h.owner ≡ Taking lane)
