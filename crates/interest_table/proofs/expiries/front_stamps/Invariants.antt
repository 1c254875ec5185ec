use Rattle.std.proofs.Common.{◌≡◌, ◌≤◌, ◌-◌, ◌++◌, length, drop}
use Rattle.interest_table.specs.Inside.{due_front}
use Rattle.interest_table.proofs.expiries.front_stamps.Given as goal

-- the stamps so far, and those that are left
abbrev pub invariant-loop-run : goal.invariant-loop-run
invariant-loop-run l = record { within : l.place ≤ length l.expiries.items; items : l.stamps.items ++ due_front l.most (drop l.place l.expiries.items) ≡ due_front l.most l.expiries.items }

abbrev pub decreases-loop-run : goal.decreases-loop-run
decreases-loop-run l = length l.expiries.items - l.place
