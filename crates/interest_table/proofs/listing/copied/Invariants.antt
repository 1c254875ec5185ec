use Rattle.std.proofs.Common.{◌≡◌, ◌-◌, ◌≤◌, ◌++◌, length, drop}
use Rattle.interest_table.proofs.listing.copied.Given as goal

-- the values so far, and those that are left
abbrev pub invariant-loop-run : goal.invariant-loop-run
invariant-loop-run g l = record { within : l.place ≤ length l.row.items; items : l.copy.items ++ drop l.place l.row.items ≡ l.row.items }

abbrev pub decreases-loop-run : goal.decreases-loop-run
decreases-loop-run g l = length l.row.items - l.place
