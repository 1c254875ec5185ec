-- Who holds each address of a disk.
--     Holders      for each address, from 0, who holds it
--     holder_at holders a      who holds an address, nobody behind the last one
--     open_in holders      how many addresses are free
--     next_index owner holders      one above the greatest index of an owner, 0 where it has no block
--     with_taken owner from n holders      the n lowest free addresses, rising, given to an owner's indices from one on
--     without_owner, without_block, renamed, renamed_block      what becomes of one address as an owner's blocks are dropped, a block is dropped, a recording gets its file, a block becomes another
--     EachBecomes f old new      each address has become what f says
--     IsAddressOf h holders result      the address of a block, and the only one
use Rattle.std.specs.Prelude.{◌≡◌, ℕ, zero, suc, ◌<◌, max, Bool, false, ◌&&◌, cond, ◌==◌, List, [], ◌∷◌, length, slice_index_or, Option, Some, None, IfSome, IfNone}
use Rattle.voice_blocks.specs.declared.owner.Owner.{Owner}
use Rattle.voice_blocks.specs.declared.owner.Owner.TheVariants.{File, Taking}
use Rattle.voice_blocks.specs.declared.owner.Holder.{Holder}

-- for each address, from 0, who holds it
abbrev pub Holders : Type 0
Holders = List (Option Holder)

-- who holds an address, nobody behind the last one
abbrev pub holder_at : Holders → ℕ → Option Holder
holder_at holders a = slice_index_or holders a None

abbrev pub same_owner : Owner → Owner → Bool
same_owner (File a) (File b) = a == b
same_owner (File a) (Taking b) = false
same_owner (Taking a) (File b) = false
same_owner (Taking a) (Taking b) = a == b

abbrev pub same_holder : Holder → Holder → Bool
same_holder p q = same_owner p.owner q.owner && (p.index == q.index)

-- 1 for a recording that isn't done, else 0
abbrev pub of_owner : Owner → ℕ
of_owner (File file) = 0
of_owner (Taking lane) = 1

abbrev pub block_of : Owner → ℕ → Holder
block_of owner index = record { owner = owner; index = index }

-- how many addresses are free
abbrev pub open_in : Holders → ℕ
open_in [] = 0
open_in (None ∷ hs) = suc (open_in hs)
open_in (Some h ∷ hs) = open_in hs

-- one above the index of a block of an owner, 0 for another's
abbrev pub end_at : Owner → Option Holder → ℕ
end_at owner None = 0
end_at owner (Some h) = cond (same_owner owner h.owner) (suc h.index) 0

-- one above the greatest index of an owner, 0 where it has no block
abbrev pub next_index : Owner → Holders → ℕ
next_index owner [] = 0
next_index owner (h ∷ hs) = max (end_at owner h) (next_index owner hs)

-- a free address below which none is free
pub record IsLowestFree (holders : Holders) (a : ℕ) : Type 0 where
  pub within : a < length holders
  pub free : holder_at holders a ≡ None
  pub below : (b : ℕ) → b < a → ¬ (holder_at holders b ≡ None)

-- the n lowest free addresses, rising, given to an owner's indices from one on
abbrev pub with_taken : Owner → ℕ → ℕ → Holders → Holders
with_taken owner from zero hs = hs
with_taken owner from (suc n) [] = []
with_taken owner from (suc n) (None ∷ hs) = Some (block_of owner from) ∷ with_taken owner (suc from) n hs
with_taken owner from (suc n) (Some h ∷ hs) = Some h ∷ with_taken owner from (suc n) hs

-- what becomes of an address as an owner's blocks are dropped
abbrev pub without_owner : Owner → Option Holder → Option Holder
without_owner owner None = None
without_owner owner (Some h) = cond (same_owner owner h.owner) None (Some h)

-- what becomes of an address as a block is dropped
abbrev pub without_block : Holder → Option Holder → Option Holder
without_block block None = None
without_block block (Some h) = cond (same_holder block h) None (Some h)

-- what becomes of an address as a lane's recording gets its file
abbrev pub renamed : ℕ → ℕ → Option Holder → Option Holder
renamed lane file None = None
renamed lane file (Some h) = cond (same_owner (Taking lane) h.owner) (Some (block_of (File file) h.index)) (Some h)

-- what becomes of an address as a block becomes another
abbrev pub renamed_block : Holder → Holder → Option Holder → Option Holder
renamed_block from to None = None
renamed_block from to (Some h) = cond (same_holder from h) (Some to) (Some h)

-- each address has become what f says
pub record EachBecomes (f : Option Holder → Option Holder) (old new : Holders) : Type 0 where
  pub count : length new ≡ length old
  pub each : (a : ℕ) → holder_at new a ≡ f (holder_at old a)

-- the address of a block, and the only one
pub record IsAddressOf (block : Holder) (holders : Holders) (result : Option ℕ) : Type 0 where
  pub found : IfSome result (λ a. holder_at holders a ≡ Some block)
  pub only : IfSome result (λ a. (b : ℕ) → holder_at holders b ≡ Some block → b ≡ a)
  pub absent : IfNone result ((a : ℕ) → ¬ (holder_at holders a ≡ Some block))

-- what contracts see of a map of blocks: who holds each address, and how many more blocks it can enter without memory
pub record BlocksView : Type 0 where
  pub holders : Holders
  pub spare : ℕ
