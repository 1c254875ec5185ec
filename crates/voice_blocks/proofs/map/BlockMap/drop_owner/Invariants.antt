use Rattle.std.proofs.Common.{◌≡◌, ℕ}
use Rattle.voice_blocks.specs.Holders.{EachBecomes, BlocksView}
use Rattle.voice_blocks.specs.declared.owner.Owner.{Owner}
use Rattle.voice_blocks.proofs.DropLemmas.{without_below}
use Rattle.voice_blocks.proofs.map.BlockMap.drop_owner.Given as goal

-- an owner's blocks below an index were dropped
pub record AreDropped (owner : Owner) (index : ℕ) (old new : BlocksView) : Type 0 where
  pub each : EachBecomes (without_below owner index) old.holders new.holders
  pub spare_stays : new.spare ≡ old.spare

abbrev pub invariant-loop-index : goal.invariant-loop-index
invariant-loop-index l = AreDropped l.owner l.index l.initial.self l.self
