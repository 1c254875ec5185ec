use Rattle.std.proofs.Common.{◌≡◌, ◌+◌, length, take}
use Rattle.counted_row.specs.Row.{flat}
use Rattle.counted_row.proofs.steps.spot_from_front.Given as goal

abbrev pub invariant-loop-i : goal.invariant-loop-i
invariant-loop-i g l = l.k ≡ length (flat (take l.i l.chunks.items)) + l.rest
