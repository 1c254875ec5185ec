-- What a step leaves of the addresses that are given out to blocks.
--     KeepsAddresses old new      each address that is given out was given to the same block before
--     HandsOut file old new      the same, but for blocks of a file
use Rattle.std.specs.Prelude.{◌≡◌, ℕ, ◌⊎◌, Some}
use Rattle.voice_blocks.specs.Holders.{Holders, holder_at}
use Rattle.voice_blocks.specs.declared.owner.Owner.TheVariants.{File}
use Rattle.voice_blocks.specs.declared.owner.Holder.{Holder}

-- each address that is given out was given to the same block before
abbrev pub KeepsAddresses : Holders → Holders → Type 0
KeepsAddresses old new = (a : ℕ) (h : Holder) → holder_at new a ≡ Some h → holder_at old a ≡ Some h

-- each address that is given out was given to the same block before, or is given to a block of that file
abbrev pub HandsOut : ℕ → Holders → Holders → Type 0
HandsOut file old new = (a : ℕ) (h : Holder) → holder_at new a ≡ Some h → (holder_at old a ≡ Some h) ⊎ (h.owner ≡ File file)
