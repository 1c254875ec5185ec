use Rattle.std.proofs.Common.{◌≡◌, ◌+◌, ◌-◌, ◌≤◌, ◌++◌, length, drop}
use Rattle.rope_table.proofs.copies.copied.Given as goal

abbrev pub invariant-loop-run : goal.invariant-loop-run
invariant-loop-run g l = record { within : l.place ≤ length l.row.items; items : l.copy.items ++ drop l.place l.row.items ≡ l.row.items; room : l.n ≤ length l.copy.items + l.copy.spare }

abbrev pub decreases-loop-run : goal.decreases-loop-run
decreases-loop-run g l = length l.row.items - l.place
