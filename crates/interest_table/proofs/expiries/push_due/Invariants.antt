use Rattle.std.proofs.Common.{◌≡◌, ◌++◌, List, drop}
use Rattle.interest_table.specs.declared.expiries.Expiry.{Expiry}
use Rattle.interest_table.specs.Inside.{due_front}
use Rattle.interest_table.proofs.expiries.push_due.Given as goal

-- the stamps so far, and those that are left
abbrev pub invariant-loop-expiry : goal.invariant-loop-expiry
invariant-loop-expiry l = (left : List Expiry) → l.stamps.items ++ due_front l.most (drop l.expiry-index l.run ++ left) ≡ l.initial.stamps.items ++ due_front l.most (l.run ++ left)
