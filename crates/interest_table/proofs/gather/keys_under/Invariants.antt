use Rattle.std.proofs.Common.{◌≡◌, map, take}
use Rattle.interest_table.specs.Inside.{row_of, kept, AllKept}
use Rattle.interest_table.proofs.gather.keys_under.Given as goal

abbrev pub invariant-loop-stamp : goal.invariant-loop-stamp
invariant-loop-stamp l = AllKept (row_of l.rows) l.stamps → l.keys.items ≡ map (λ s. (kept (row_of l.rows) s).key) (take l.stamp-index l.stamps)
