use Rattle.std.proofs.Common.{◌≡◌, ◌+◌, ◌*◌, ◌-◌, ◌^◌, ◌≤◌}
use Rattle.checkpoint.specs.Blocks.{above}
use Rattle.tallies.specs.Tallies.{samples_held}
use Rattle.tallies.proofs.tallying.samples.Given as goal

abbrev pub invariant-loop-id : goal.invariant-loop-id
invariant-loop-id l = record {
  most : l.last ≤ 2 ^ 48;
  small : l.sum ≤ l.last * 2 ^ 32;
  so_far : l.sum + samples_held (above l.last l.table.ropes) ≡ samples_held l.table.ropes;
}

abbrev pub decreases-loop-id : goal.decreases-loop-id
decreases-loop-id l = 2 ^ 48 - l.last
