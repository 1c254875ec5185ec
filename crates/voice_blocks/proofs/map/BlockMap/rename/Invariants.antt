use Rattle.std.proofs.Common.{◌≡◌, ℕ}
use Rattle.voice_blocks.specs.Holders.{EachBecomes, BlocksView}
use Rattle.voice_blocks.proofs.MoveLemmas.{renamed_below}
use Rattle.voice_blocks.proofs.map.BlockMap.rename.Given as goal

-- a recording's blocks below an index became a file's
pub record AreRenamed (lane file index : ℕ) (old new : BlocksView) : Type 0 where
  pub each : EachBecomes (renamed_below lane file index) old.holders new.holders
  pub spare_stays : new.spare ≡ old.spare

abbrev pub invariant-loop-index : goal.invariant-loop-index
invariant-loop-index l = AreRenamed l.lane l.file l.index l.initial.self l.self
