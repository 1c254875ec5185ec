use Rattle.std.proofs.Common.{◌≡◌, ◌+◌, ◌≤◌, ◌++◌, length, reverse}
use Rattle.std.specs.Vec.{vec_capacity}
use Rattle.counted_row.proofs.chunk.take_upper.Given as goal

abbrev pub invariant-loop-lower : goal.invariant-loop-lower
invariant-loop-lower g l =
    (l.lower.items ++ reverse l.upper.items ≡ l.fn.lower.items)
    × (128 ≤ length l.lower.items)
    × (length l.lower.items + length l.upper.items ≡ 256)
    × (vec_capacity l.lower ≡ vec_capacity l.fn.lower)
    × (256 ≤ vec_capacity l.upper)

abbrev pub decreases-loop-lower : goal.decreases-loop-lower
decreases-loop-lower g l = goal.left-loop-lower g l
