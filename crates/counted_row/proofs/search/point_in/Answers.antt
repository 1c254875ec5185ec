use Rattle.std.proofs.Common.{arith, ◌≡◌, ◌+◌, sym, subst, true, false}
use Rattle.std.specs.List.Sorted.{IsPartitionPoint}
use Rattle.counted_row.specs.Row.{flat}
use Rattle.counted_row.proofs.Points.{start-within}
use Rattle.counted_row.proofs.search.point_in.Goals as goal

pub overflow_add-result : goal.overflow_add-result
overflow_add-result g c = omega (arith, c.end_of-end.ensures.place, c.start_of.ensures, start-within c.args.chunks.now.items c.end_of-end.result.chunk c.end_of-end.ensures.chunk, c.requires.few)

pub returns-clause-bound : goal.returns-clause-bound
returns-clause-bound g c = omega (arith, c.end_of-end.ensures.place, c.start_of.ensures, start-within c.args.chunks.now.items c.end_of-end.result.chunk c.end_of-end.ensures.chunk)

pub returns-clause-partitioned : goal.returns-clause-partitioned
returns-clause-partitioned g c p computes parts =
    subst (λ n. IsPartitionPoint (λ y. p y ≡ true) (λ y. p y ≡ false) (flat c.args.chunks.now.items) (n + c.end_of-end.result.place)) (sym c.start_of.ensures)
    (c.end_of-end.ensures.partitioned p computes parts)
