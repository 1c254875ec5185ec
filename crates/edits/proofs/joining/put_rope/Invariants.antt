use Rattle.std.proofs.Common.{◌≡◌, ◌++◌, take}
use Rattle.edits.proofs.joining.put_rope.Given as goal

abbrev pub invariant-loop-k : goal.invariant-loop-k
invariant-loop-k l = l.list.items ≡ l.initial.list.items ++ take l.k l.pieces
