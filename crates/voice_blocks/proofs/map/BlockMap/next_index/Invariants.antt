use Rattle.std.proofs.Common.{◌≡◌, ◌≤◌, ◌<◌, ◌^◌, ℕ, Some}
use Rattle.voice_blocks.specs.declared.owner.Owner.{Owner}
use Rattle.voice_blocks.specs.Holders.{Holders, holder_at, block_of}
use Rattle.voice_blocks.proofs.map.BlockMap.next_index.Given as goal

-- an owner's indices are below the end
pub record IsEnd (owner : Owner) (hs : Holders) (end : ℕ) : Type 0 where
  pub fits : end ≤ 2 ^ 32
  pub bound : (a index : ℕ) → holder_at hs a ≡ Some (block_of owner index) → index < end

abbrev pub invariant-loop-end : goal.invariant-loop-end
invariant-loop-end l = IsEnd l.owner l.self.holders l.end

abbrev pub decreases-loop-end : goal.decreases-loop-end
decreases-loop-end l = l.end
