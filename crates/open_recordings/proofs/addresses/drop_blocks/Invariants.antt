use Rattle.std.proofs.Common.{ℕ, ◌+◌, ◌≤◌}
use Rattle.voice_blocks.specs.Holders.{Holders, EachBecomes}
use Rattle.voice_blocks.specs.declared.owner.Owner.TheVariants.{Taking}
use Rattle.open_recordings.specs.Blocks.{without_from}
use Rattle.open_recordings.proofs.addresses.drop_blocks.Given as goal

-- a lane's blocks from an index on, up to another, were dropped
pub record AreDropped (lane from n index : ℕ) (old new : Holders) : Type 0 where
  pub low : from ≤ index
  pub high : index ≤ from + n
  pub each : EachBecomes (without_from (Taking lane) from index) old new

abbrev pub invariant-loop-index : goal.invariant-loop-index
invariant-loop-index l = AreDropped l.lane l.from l.n l.index l.initial.blocks.holders l.blocks.holders
