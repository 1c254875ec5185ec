use Rattle.std.proofs.Common.{◌≡◌, take}
use Rattle.next_ropes.proofs.payloads.list_of.Given as goal

abbrev pub invariant-loop-k : goal.invariant-loop-k
invariant-loop-k l = l.list.items ≡ take l.k l.pieces
