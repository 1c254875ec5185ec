use Rattle.std.proofs.Common.{◌≡◌, ◌++◌, ◌-◌, ◌^◌, ◌≤◌, map}
use Rattle.voice_model.specs.Spelling.{spelling}
use Rattle.checkpoint.specs.Blocks.{kept_change, above}
use Rattle.checkpoint.proofs.ropes.put_ropes.Given as goal

abbrev pub invariant-loop-id : goal.invariant-loop-id
invariant-loop-id l = record {
  most : l.last ≤ 2 ^ 48;
  so_far : l.payloads ++ map spelling (map (kept_change l.form) (above l.last l.table.ropes)) ≡ l.fn.payloads ++ map spelling (map (kept_change l.form) l.table.ropes);
}

abbrev pub decreases-loop-id : goal.decreases-loop-id
decreases-loop-id l = 2 ^ 48 - l.last
