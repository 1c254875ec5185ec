use Rattle.std.proofs.Common.{◌≡◌, take}
use Rattle.checkpoint.proofs.ropes.list_of.Given as goal

abbrev pub invariant-loop-k : goal.invariant-loop-k
invariant-loop-k l = l.list.items ≡ take l.k l.pieces
