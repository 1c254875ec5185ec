-- Addresses that are taken for a moment, to learn which are free.
--     for_now      who takes them
--     HoldsNone holders      that owner has no block
--     AreHeld from holders addresses      they are the addresses of its blocks, from this index on
--     AreOpen holders n addresses      so many addresses, each once, that nobody holds
use Rattle.std.specs.Prelude.{◌≡◌, ℕ, suc, ◌<◌, true, List, [], ◌∷◌, length, Some, None}
use Rattle.voice_model.specs.Replay.{all_differ}
use Rattle.voice_model.specs.Valid.{Every}
use Rattle.voice_blocks.specs.Holders.{Holders, holder_at, block_of, without_owner}
use Rattle.voice_blocks.specs.declared.owner.Owner.{Owner}
use Rattle.voice_blocks.specs.declared.owner.Owner.TheVariants.{Taking}

-- who takes them
abbrev pub for_now : Owner
for_now = Taking 0

-- that owner has no block
abbrev pub HoldsNone : Holders → Type 0
HoldsNone holders = (a : ℕ) → without_owner for_now (holder_at holders a) ≡ holder_at holders a

-- the addresses of its blocks, from this index on
abbrev pub AreHeld : ℕ → Holders → List ℕ → Type 0
AreHeld from holders [] = Unit {0}
AreHeld from holders (a ∷ rest) = (holder_at holders a ≡ Some (block_of for_now from)) × AreHeld (suc from) holders rest

-- an address that the disk has and nobody holds
pub record IsOpen (holders : Holders) (a : ℕ) : Type 0 where
  pub within : a < length holders
  pub free : holder_at holders a ≡ None

-- so many addresses, each once, that nobody holds
pub record AreOpen (holders : Holders) (n : ℕ) (addresses : List ℕ) : Type 0 where
  pub count : length addresses ≡ n
  pub differ : all_differ addresses ≡ true
  pub open_each : Every (IsOpen holders) addresses
