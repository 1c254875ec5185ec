use Rattle.std.proofs.Common.{◌≡◌, ◌+◌, ◌-◌, ◌<◌, ℕ, Some}
use Rattle.voice_blocks.specs.declared.owner.Owner.{Owner}
use Rattle.voice_blocks.specs.Holders.{holder_at, block_of, open_in, with_taken}
use Rattle.voice_blocks.specs.Holders.{BlocksView}
use Rattle.voice_blocks.proofs.map.BlockMap.give.Given as goal

-- k addresses were given
pub record AreGiven (owner : Owner) (from n k : ℕ) (old new : BlocksView) : Type 0 where
  pub rest : with_taken owner (from + k) (n - k) new.holders ≡ with_taken owner from n old.holders
  pub spare_left : new.spare + k ≡ old.spare
  pub open_left : open_in new.holders + k ≡ open_in old.holders
  pub behind : (a index : ℕ) → holder_at new.holders a ≡ Some (block_of owner index) → index < from + k

abbrev pub invariant-loop-k : goal.invariant-loop-k
invariant-loop-k l = AreGiven l.owner l.from l.n l.k l.initial.self l.self
