use Rattle.std.proofs.Common.{◌≡◌, ◌≤◌, ◌^◌, ◌-◌, ◌&&◌, ◌||◌}
use Rattle.voice_units.specs.Blocks.{BlockPair, pairs_at, has_pair}
use Rattle.checkpoint.specs.Blocks.{spots_in_ropes, above}
use Rattle.voice_audit.specs.Sharing.{is_noted, is_shared}
use Rattle.voice_audit.proofs.sharing.shared_blocks.Given as goal

abbrev pub invariant-loop-id : goal.invariant-loop-id
invariant-loop-id l = record {
  most : l.last ≤ 2 ^ 48;
  so_far : (q : BlockPair) → (is_noted l.noted q || (is_shared l.table q && has_pair (pairs_at l.table.block (spots_in_ropes (above l.last l.table.ropes))) q)) ≡ (is_shared l.table q && has_pair (pairs_at l.table.block (spots_in_ropes l.table.ropes)) q);
}

abbrev pub decreases-loop-id : goal.decreases-loop-id
decreases-loop-id l = 2 ^ 48 - l.last
