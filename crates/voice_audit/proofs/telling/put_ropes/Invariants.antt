use Rattle.std.proofs.Common.{◌≡◌, ◌++◌, ◌-◌, ◌^◌, ◌≤◌, flat_map}
use Rattle.checkpoint.specs.Blocks.{above}
use Rattle.voice_audit.specs.Telling.{shown_line}
use Rattle.voice_audit.proofs.telling.put_ropes.Given as goal

abbrev pub invariant-loop-id : goal.invariant-loop-id
invariant-loop-id l = record {
  most : l.last ≤ 2 ^ 48;
  so_far : l.out.items ++ flat_map (shown_line l.interests.rows) (above l.last l.table.ropes) ≡ l.fn.out.items ++ flat_map (shown_line l.interests.rows) l.table.ropes;
}

abbrev pub decreases-loop-id : goal.decreases-loop-id
decreases-loop-id l = 2 ^ 48 - l.last
