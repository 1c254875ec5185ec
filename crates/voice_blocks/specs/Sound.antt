-- What a map of blocks keeps.
--     holder_eq, owner_eq      the program's own tests
--     place_in, end_in      the address under a block;  a bound on an owner's indices
--     IsSound      all parts tell of the same holders, and there is room
use Rattle.std.specs.Prelude.{◌≡◌, ℕ, ◌+◌, ◌*◌, ◌^◌, ◌<◌, ◌≤◌, Bool, List, [], ◌∷◌, length, Option, Some, None, unwrap_or}
use Rattle.std.specs.HashMap.{get, HashMap}
use Rattle.voice_blocks.specs.declared.owner.Owner.{Owner}
use Rattle.voice_blocks.specs.declared.owner.Holder.{Holder}
use Rattle.voice_blocks.specs.contracts.owner.HolderPartialEq.TheImpl as holder_impl
use Rattle.voice_blocks.specs.contracts.owner.OwnerPartialEq.TheImpl as owner_impl
use Rattle.voice_blocks.specs.Bits.{bit_of}
use Rattle.voice_blocks.specs.Holders.{Holders, holder_at, open_in, of_owner}

abbrev pub holder_eq : Holder → Holder → Bool
holder_eq = (holder_impl.ghosts).eq

abbrev pub owner_eq : Owner → Owner → Bool
owner_eq = (owner_impl.ghosts).eq

-- the address that is kept under a block
abbrev pub place_in : {S : Type 0} → HashMap Holder ℕ S → Holder → Option ℕ
place_in places h = get holder_eq places h

-- a bound on an owner's indices
abbrev pub end_in : {S : Type 0} → HashMap Owner ℕ S → Owner → ℕ
end_in ends owner = unwrap_or (get owner_eq ends owner) 0

abbrev pub bit_for : Option Holder → ℕ
bit_for None = 0
bit_for (Some h) = 1

abbrev pub of_taking : Option Holder → ℕ
of_taking None = 0
of_taking (Some h) = of_owner h.owner

-- how many blocks recordings have that aren't done
abbrev pub takings_in : Holders → ℕ
takings_in [] = 0
takings_in (h ∷ hs) = of_taking h + takings_in hs

-- all parts tell of the same holders, and there is room for the spare blocks, and for each block of a recording once more
pub record IsSound (holders : Holders) (words : List ℕ) (free takings room : ℕ) (place : Holder → Option ℕ) (end : Owner → ℕ) (spare_places spare_ends : ℕ) : Type 0 where
  pub bits : (a : ℕ) → a < length holders → bit_of words a ≡ bit_for (holder_at holders a)
  pub few : length holders < 2 ^ 32
  pub words_reach : length holders ≤ 64 * length words
  pub free_is : free ≡ open_in holders
  pub takings_is : takings ≡ takings_in holders
  pub placed : (a : ℕ) (h : Holder) → holder_at holders a ≡ Some h → place h ≡ Some a
  pub only : (a : ℕ) (h : Holder) → place h ≡ Some a → holder_at holders a ≡ Some h
  pub ended : (a : ℕ) (h : Holder) → holder_at holders a ≡ Some h → h.index < end h.owner
  pub ends_fit : (o : Owner) → end o ≤ 2 ^ 32
  pub room_places : 2 * room + takings ≤ spare_places
  pub room_ends : 2 * room + takings ≤ spare_ends
