use Rattle.std.proofs.Common.{arith, rules, of_calls, ◌≡◌, ◌+◌, ◌-◌, ◌/◌, ◌<◌, ◌≤◌, [], None, Some, length, get_or, slice_get, refl, sym, ap, subst, ◌∙◌, true, false}
use Rattle.std.specs.List.Sorted.{IsPartitionedBy, IsPartitionPoint}
use Rattle.counted_row.specs.Row.{flat}
use Rattle.counted_row.proofs.Flat.{at-index}
use Rattle.counted_row.proofs.Points.{answers_next, Halved, start, chunk-passes, chunk-fails-up, chunk-empty-up, parts-in, point-in}
use Rattle.counted_row.proofs.search.end_of.Goals as goal

pub loop-size-preserved-in_default : goal.loop-size-preserved-in_default
loop-size-preserved-in_default g c =
    let cs = c.args.chunks.now.items in let base = c.loop-size.base in let size = c.loop-size.size in let mid = base + size / 2 in
    let within : mid < length cs = omega (arith, c.loop-size.invariant.1, c.loop-size-test.true) in
    let here : c.index.result.now ≡ get_or cs mid [] = at-index cs mid c.index.result.now within c.index.ensures in
    let none : slice_get c.index.result.now 0 ≡ None = search rules in
    let empty : slice_get (get_or cs mid []) 0 ≡ None = ap (λ l. slice_get l 0) (sym here) ∙ none in
    let next : mid ≤ base + (size - size / 2) = omega arith in (
      omega (arith, c.loop-size-test.true),
      omega (arith, c.loop-size.invariant.1),
      c.loop-size.invariant.2,
      λ p computes parts. let i = c.loop-size.invariant.3 p computes parts in (i.0, chunk-empty-up p cs (start cs base) (start cs (base + size)) mid (base + (size - size / 2)) within next c.requires.dense empty i.1),
    )

pub loop-size-preserved-then-pred : goal.loop-size-preserved-then-pred
loop-size-preserved-then-pred g c =
    let cs = c.args.chunks.now.items in let base = c.loop-size.base in let size = c.loop-size.size in let mid = base + size / 2 in
    let k = c.if-pred.ensures in
    let within : mid < length cs = omega (arith, c.loop-size.invariant.1, c.loop-size-test.true) in
    let here : c.index.result.now ≡ get_or cs mid [] = at-index cs mid c.index.result.now within c.index.ensures in
    let some : slice_get c.index.result.now 0 ≡ Some c.in-Some.first.now = search rules in
    let first : slice_get (get_or cs mid []) 0 ≡ Some c.in-Some.first.now = ap (λ l. slice_get l 0) (sym here) ∙ some in
    let same : base + size ≡ mid + (size - size / 2) = omega arith in (
      omega (arith, c.loop-size-test.true),
      omega (arith, c.loop-size.invariant.1),
      search of_calls,
      λ p computes parts. let i = c.loop-size.invariant.3 p computes parts in let n = answers_next g.P.FnMut _ _ _ _ _ k i.0 in
          (n.1, subst (λ m. Halved p (flat cs) (start cs mid) (start cs m)) same (chunk-passes p cs (start cs base) (start cs (base + size)) mid c.in-Some.first.now within first (sym n.0) parts i.1)),
    )

pub loop-size-preserved : goal.loop-size-preserved
loop-size-preserved g c =
    let cs = c.args.chunks.now.items in let base = c.loop-size.base in let size = c.loop-size.size in let mid = base + size / 2 in
    let k = c.if-pred.ensures in
    let within : mid < length cs = omega (arith, c.loop-size.invariant.1, c.loop-size-test.true) in
    let here : c.index.result.now ≡ get_or cs mid [] = at-index cs mid c.index.result.now within c.index.ensures in
    let some : slice_get c.index.result.now 0 ≡ Some c.in-Some.first.now = search rules in
    let first : slice_get (get_or cs mid []) 0 ≡ Some c.in-Some.first.now = ap (λ l. slice_get l 0) (sym here) ∙ some in
    let next : mid ≤ base + (size - size / 2) = omega arith in (
      omega (arith, c.loop-size-test.true),
      omega (arith, c.loop-size.invariant.1),
      search of_calls,
      λ p computes parts. let i = c.loop-size.invariant.3 p computes parts in let n = answers_next g.P.FnMut _ _ _ _ _ k i.0 in
          (n.1, chunk-fails-up p cs (start cs base) (start cs (base + size)) mid (base + (size - size / 2)) c.in-Some.first.now within next first (sym n.0) parts i.1),
    )

pub returns-clause-place : goal.returns-clause-place
returns-clause-place g c =
    let cs = c.args.chunks.now.items in let base = c.loop-size.base in
    let within : base < length cs = omega (arith, c.loop-size.invariant.0, c.loop-size.invariant.1) in
    subst (λ l. c.partition_point-place.result ≤ length l) (c.tail.ensures ∙ at-index cs base c.index-2.result.now within c.index-2.ensures) c.partition_point-place.ensures.bound

pub returns-clause-partitioned : goal.returns-clause-partitioned
returns-clause-partitioned g c p computes parts =
    let cs = c.args.chunks.now.items in let base = c.loop-size.base in
    let place = c.partition_point-place.result in
    let within : base < length cs = omega (arith, c.loop-size.invariant.0, c.loop-size.invariant.1) in
    let here : c.tail.result.now ≡ get_or cs base [] = c.tail.ensures ∙ at-index cs base c.index-2.result.now within c.index-2.ensures in
    let all : place ≤ length (get_or cs base []) = subst (λ l. place ≤ length l) here c.partition_point-place.ensures.bound in
    let i = c.loop-size.invariant.3 p computes parts in
    let inside : IsPartitionedBy p c.tail.result.now = subst (λ l. IsPartitionedBy p l) (sym here) (parts-in p cs base within parts) in
    let point : IsPartitionPoint (λ y. p y ≡ true) (λ y. p y ≡ false) (get_or cs base []) place = subst (λ l. IsPartitionPoint (λ y. p y ≡ true) (λ y. p y ≡ false) l place) here (c.partition_point-place.ensures.partitioned p i.0 inside) in
    let one : base + c.loop-size.size ≡ base + 1 = omega (arith, c.loop-size.invariant.0, c.loop-size-test.false) in
    let halved : Halved p (flat cs) (start cs base) (start cs (base + 1)) = subst (λ m. Halved p (flat cs) (start cs base) (start cs m)) one i.1 in
    point-in p cs base place (start cs base + place) within refl all halved point
