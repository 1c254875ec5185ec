-- The block of a rope of one sample.
use Rattle.std.proofs.Common.{◌≡◌, ℕ, ◌+◌, ◌/◌, ◌^◌, ◌<◌, List, Bool, true, false, ◌||◌, refl, sym, ◌∙◌, ap, subst, arith}
use Rattle.std.proofs.Math.Nat.{zero-div}
use Rattle.voice_units.specs.declared.Piece.{Piece}
use Rattle.voice_units.specs.Spots.{spots_in, spots_of, pieces_of}
use Rattle.voice_units.specs.Blocks.{BlockPair, pairs_at, has_pair}
use Rattle.voice_units.proofs.Distinct.{same_pair-true}
use Rattle.rope_table.specs.Table.{Every, is_lower, with_rope, without_rope, made_rope, pair_of}
use Rattle.rope_table.specs.declared.Rope.{Rope}
use Rattle.rope_table.proofs.InOrder.{every_put}
use Rattle.rope_table.proofs.Edited.{every_without}

left : (b : Bool) → (b || false) ≡ true → b ≡ true
left true e = refl
left false e = e

only : (block id : ℕ) (q : BlockPair) → has_pair (pairs_at block (spots_of (pieces_of (spots_in (record { file = id; from = 0; len = 1 }))))) q ≡ true → q ≡ pair_of id 0
only block id q has = same_pair-true q (record { file = id; index = 0 / block }) (left _ has) ∙ ap (pair_of id) (zero-div block)

-- where its first block has no use, each of its blocks may be used once more
pub fits_once : (block id : ℕ) (ps : List Piece) (uses : BlockPair → ℕ) (q : BlockPair) → ps ≡ pieces_of (spots_in (record { file = id; from = 0; len = 1 })) → uses (pair_of id 0) ≡ 0 → has_pair (pairs_at block (spots_of ps)) q ≡ true → uses q + 1 < 2 ^ 32
fits_once block id ps uses q is none has =
    let same = only block id q (sym (ap (λ l. has_pair (pairs_at block (spots_of l)) q) is) ∙ has) in
    subst (λ n. n + 1 < 2 ^ 32) (sym (ap uses same ∙ none)) (omega arith)

-- where no row keeps a rope, none does after a rope came or went
pub free_added : (id : ℕ) (ps : List Piece) (idle last wait : ℕ) (old mid new : List Rope) → mid ≡ old → new ≡ with_rope (made_rope id ps idle last wait) mid → Every (λ rope. rope.kept ≡ false) old → Every (λ rope. rope.kept ≡ false) new
free_added id ps idle last wait old mid new same is free =
    subst (λ (l : List Rope). Every (λ rope. rope.kept ≡ false) l) (sym (is ∙ ap (with_rope (made_rope id ps idle last wait)) same))
    (every_put (λ rope. rope.kept ≡ false) is_lower (made_rope id ps idle last wait) old refl free)

pub free_without : (id : ℕ) (old new : List Rope) → new ≡ without_rope id old → Every (λ rope. rope.kept ≡ false) old → Every (λ rope. rope.kept ≡ false) new
free_without id old new is free = subst (λ (l : List Rope). Every (λ rope. rope.kept ≡ false) l) (sym is) (every_without (λ rope. rope.kept ≡ false) id old free)
