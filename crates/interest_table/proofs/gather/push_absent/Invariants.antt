use Rattle.std.proofs.Common.{◌≡◌, ◌++◌, ◌≤◌, ◌-◌, List, length, map, drop}
use Rattle.voice_model.specs.Changes.{is_unlisted}
use Rattle.voice_model.specs.declared.calls.Row.{Row}
use Rattle.interest_table.specs.Inside.{row_of, kept, AllKept, first_keys}
use Rattle.interest_table.proofs.gather.push_absent.Given as goal

-- the keys so far and those of the rows that are left
abbrev pub invariant-loop-stamp : goal.invariant-loop-stamp
invariant-loop-stamp l = record {
  keys : AllKept (row_of l.rows) l.stamps → (left : List Row) → l.keys.items ++ first_keys (is_unlisted l.named.keys) (65535 - length l.keys.items) (map (kept (row_of l.rows)) (drop l.stamp-index l.stamps) ++ left) ≡ l.initial.keys.items ++ first_keys (is_unlisted l.named.keys) (65535 - length l.initial.keys.items) (map (kept (row_of l.rows)) l.stamps ++ left);
  most : length l.keys.items ≤ 65535;
}
