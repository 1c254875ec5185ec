use Rattle.std.proofs.Common.{◌≡◌, ◌<◌, ◌≤◌, length}
use Rattle.counted_row.proofs.Points.{start}
use Rattle.counted_row.proofs.steps.spot_from_end.Given as goal

abbrev pub invariant-back : goal.invariant-back
invariant-back g l = (l.start ≡ start l.chunks.items l.i) × (l.i ≤ length l.chunks.items) × (l.k < l.start)

abbrev pub decreases-back : goal.decreases-back
decreases-back g l = l.i
