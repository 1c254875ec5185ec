use Rattle.std.proofs.Common.{◌≡◌, ◌||◌, ◌-◌, ◌^◌, ◌≤◌}
use Rattle.voice_units.specs.Blocks.{BlockPair, pairs_at, has_pair}
use Rattle.checkpoint.specs.Blocks.{is_noted, spots_in_ropes, above}
use Rattle.checkpoint.proofs.blocks.used_blocks.Given as goal

abbrev pub invariant-loop-id : goal.invariant-loop-id
invariant-loop-id l = record {
  most : l.last ≤ 2 ^ 48;
  so_far : (q : BlockPair) → (is_noted l.noted q || has_pair (pairs_at l.table.block (spots_in_ropes (above l.last l.table.ropes))) q) ≡ has_pair (pairs_at l.table.block (spots_in_ropes l.table.ropes)) q;
}

abbrev pub decreases-loop-id : goal.decreases-loop-id
decreases-loop-id l = 2 ^ 48 - l.last
