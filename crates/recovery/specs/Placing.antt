-- How the blocks of a recording get their addresses.
--     or_else o other      o where it is some, else the other
--     is_open holders a      whether the disk has the address and nobody holds it
--     in_use table holder      who holds an address, nobody where it is a block of a file that nothing uses
--     may_place holders file index addresses      whether the blocks of a file from an index on can get these addresses, one after another
--     may_enter holders file pairs      whether these blocks of a file can get their addresses, one after another
--     HoldsPlaces holders places      the map of blocks holds just these places, no two at one address
use Rattle.std.specs.Prelude.{◌≡◌, ℕ, ◌+◌, ◌==◌, Bool, true, false, cond, ◌&&◌, not, nat_lt, List, [], ◌∷◌, length, slice_set, is_some, Option, Some, None}
use Rattle.voice_blocks.specs.Holders.{Holders, holder_at, block_of}
use Rattle.voice_blocks.specs.declared.owner.Owner.{Owner}
use Rattle.voice_blocks.specs.declared.owner.Owner.TheVariants.{File, Taking}
use Rattle.voice_blocks.specs.declared.owner.Holder.{Holder}
use Rattle.rope_table.specs.Table.{Table, uses_at, pair_of}
use Rattle.voice_model.specs.declared.lists.Pair.{Pair}
use Rattle.voice_model.specs.Replay.{Placed}
use Rattle.voice_model.specs.Places.{Pairwise, AtOtherAddress}
use Rattle.recovery.specs.Shown.{placed_at}

-- o where it is some, else the other
abbrev pub or_else : {A : Type 0} → Option A → Option A → Option A
or_else None other = other
or_else (Some x) other = Some x

-- whether the disk has the address and nobody holds it
abbrev pub is_open : Holders → ℕ → Bool
is_open holders a = nat_lt a (length holders) && not (is_some (holder_at holders a))

-- whether the blocks of a file from an index on can get these addresses, one after another
abbrev pub may_place : Holders → ℕ → ℕ → List ℕ → Bool
may_place holders file index [] = true
may_place holders file index (a ∷ rest) = is_open holders a && may_place (slice_set holders a (Some (block_of (File file) index))) file (index + 1) rest

-- whether these blocks of a file can get their addresses, one after another
abbrev pub may_enter : Holders → ℕ → List Pair → Bool
may_enter holders file [] = true
may_enter holders file (pair ∷ rest) = is_open holders pair.address && may_enter (slice_set holders pair.address (Some (block_of (File file) pair.index))) file rest

-- the map of blocks holds just these places, no two at one address
pub record HoldsPlaces (holders : Holders) (places : List Placed) : Type 0 where
  pub each : (a : ℕ) → holder_at holders a ≡ placed_at places a
  pub differ : Pairwise AtOtherAddress places

-- whether a block is one of a file that nothing uses
abbrev pub is_unused : Table → Owner → ℕ → Bool
is_unused table (File file) index = uses_at table (pair_of file index) == 0
is_unused table (Taking lane) index = false

-- who holds an address, nobody where it is a block of a file that nothing uses
abbrev pub in_use : Table → Option Holder → Option Holder
in_use table None = None
in_use table (Some h) = cond (is_unused table h.owner h.index) None (Some h)
