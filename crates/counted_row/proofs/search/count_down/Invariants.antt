use Rattle.std.proofs.Common.{◌≡◌, ◌≤◌, length}
use Rattle.counted_row.proofs.Points.{start}
use Rattle.counted_row.proofs.search.count_down.Given as goal

abbrev pub invariant-back : goal.invariant-back
invariant-back g l = (l.count ≡ start l.chunks.items l.j) × (l.j ≤ length l.chunks.items) × (l.i ≤ l.j)

abbrev pub decreases-back : goal.decreases-back
decreases-back g l = l.j
