use Rattle.std.proofs.Common.{◌-◌, ℕ, ◌≤◌, ◌^◌}
use Rattle.voice_blocks.specs.Holders.{Holders}
use Rattle.open_recordings.specs.Blocks.{HasBlocks}
use Rattle.open_recordings.proofs.addresses.blocks_taken.Given as goal

-- the number of blocks lies between two numbers
pub record IsBetween (hs : Holders) (lane low high : ℕ) : Type 0 where
  pub order : low ≤ high
  pub limit : high ≤ 2 ^ 20
  pub bounds : (count : ℕ) → HasBlocks hs lane count → (low ≤ count) × (count ≤ high)

abbrev pub invariant-loop-low : goal.invariant-loop-low
invariant-loop-low l = IsBetween l.blocks.holders l.lane l.low l.high

abbrev pub decreases-loop-low : goal.decreases-loop-low
decreases-loop-low l = l.high - l.low
