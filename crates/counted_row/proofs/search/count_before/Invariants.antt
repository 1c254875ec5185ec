use Rattle.std.proofs.Common.{◌-◌, ◌≡◌, ◌≤◌}
use Rattle.counted_row.proofs.Points.{start}
use Rattle.counted_row.proofs.search.count_before.Given as goal

abbrev pub invariant-loop-j : goal.invariant-loop-j
invariant-loop-j g l = (l.count ≡ start l.chunks.items l.j) × (l.j ≤ l.i)

abbrev pub decreases-loop-j : goal.decreases-loop-j
decreases-loop-j g l = l.i - l.j
