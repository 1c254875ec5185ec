use Rattle.std.proofs.Common.{◌≡◌, ◌+◌, ℕ, ◌&&◌, ◌==◌, nat_lt, drop}
use Rattle.interest_table.specs.Table.{rows_of}
use Rattle.collector.specs.Due.{copies, once, rows_left, rows_kept, is_kept}
use Rattle.collector.proofs.sweeping.push_lost.Given as goal

abbrev pub invariant-loop-rope : goal.invariant-loop-rope
invariant-loop-rope l = record {
  left : (id : ℕ) → rows_left l.left l.interests.rows id ≡ rows_of id (rows_kept l.fn.now l.interests.rows) + copies id (drop l.rope-index l.rope-items);
  gone : (id : ℕ) → copies id l.gone.items ≡ copies id l.initial.gone.items + once (is_kept l.table.ropes id && (nat_lt 0 (rows_of id l.interests.rows) && (rows_left l.left l.interests.rows id == 0)));
}
