use Rattle.std.proofs.Common.{◌≡◌, ◌++◌, take}
use Rattle.interest_table.proofs.listing.push_copies.Given as goal

abbrev pub invariant-loop-value : goal.invariant-loop-value
invariant-loop-value g l = l.row.items ≡ l.initial.row.items ++ take l.value-index l.values
