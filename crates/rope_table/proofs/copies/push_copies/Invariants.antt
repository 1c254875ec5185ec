use Rattle.std.proofs.Common.{◌≡◌, ◌+◌, ◌≤◌, ◌++◌, length, take}
use Rattle.rope_table.proofs.copies.push_copies.Given as goal

abbrev pub invariant-loop-value : goal.invariant-loop-value
invariant-loop-value g l = record { items : l.row.items ≡ l.initial.row.items ++ take l.value-index l.values; room : length l.initial.row.items + l.initial.row.spare ≤ length l.row.items + l.row.spare }
