use Rattle.std.proofs.Common.{◌≡◌}
use Rattle.table_measures.proofs.copying.copy_lease.Given as goal

abbrev pub invariant-copies : goal.invariant-copies
invariant-copies l = l.lease ≡ l.initial.lease
