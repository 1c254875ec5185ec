use Rattle.std.proofs.Common.{Bool, ◌<◌, ◌≤◌, length, ◌+◌}
use denote.Param.Always.{always_mut}
use Rattle.std.specs.Fn.{ComputesKey}
use Rattle.std.specs.List.Sorted.{IsPartitionedBy}
use Rattle.counted_row.specs.Row.{flat}
use Rattle.counted_row.proofs.Points.{start, Halved}
use Rattle.counted_row.proofs.search.end_of.Given as goal

abbrev pub invariant-loop-size : goal.invariant-loop-size
invariant-loop-size g l =
    (0 < l.size) × (l.base + l.size ≤ length l.chunks.items) × always_mut g.P.FnMut l.pred
    × ((p : g.row.T.Denot → Bool) → ComputesKey g.P.FnMut p l.initial.pred → IsPartitionedBy p (flat l.chunks.items) → ComputesKey g.P.FnMut p l.pred × Halved p (flat l.chunks.items) (start l.chunks.items l.base) (start l.chunks.items (l.base + l.size)))

abbrev pub decreases-loop-size : goal.decreases-loop-size
decreases-loop-size g l = l.size
