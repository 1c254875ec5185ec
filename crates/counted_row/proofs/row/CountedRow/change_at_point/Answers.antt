use Rattle.std.proofs.Common.{arith, ◌≡◌, ◌+◌, [], length, ap, sym, subst, ◌∙◌, get_or, set}
use Rattle.std.specs.List.Sorted.{IsPartitionedBy}
use Rattle.counted_row.specs.Row.{Row, flat, IsDense, IsChanged, passing}
use Rattle.counted_row.proofs.Flat.{flat-get, flat-replace, dense-set, dense-here, length-set, length-put}
use Rattle.counted_row.proofs.Points.{start}
use Rattle.counted_row.proofs.row.CountedRow.change_at_point.Goals as goal

pub returns-clause-some : goal.returns-clause-some
returns-clause-some g c p computes =
    let cs = c.self.inside.chunks.items in
    let i = c.in-Some.first.chunk in
    let place = c.in-Some.first.place in
    let stands = c.in-Some.ensures.stands in
    let new = c.change_in-given.new.chunks.items in
    let one = c.change_in-given.ensures.chunks.1 in
    let here : IsChanged g.F.FnOnce c.args.change (flat cs) (flat new) (start cs i + place) c.change_in-given.result = record {
      before = one.before;
      after = one.after;
      there = flat-get cs i place (start cs i + place) stands ∙ one.there;
      called = one.called;
      others = ap flat (c.change_in-given.ensures.chunks.2 ∙ ap (set cs i) one.others) ∙ flat-replace cs i place (start cs i + place) one.after stands;
    } in
    subst (λ (r : Row _). IsPartitionedBy p r.items → IsChanged g.F.FnOnce c.args.change r.items (flat new) (passing p r.items) c.change_in-given.result) c.self.view_is
    (λ parts. subst (λ n. IsChanged g.F.FnOnce c.args.change (flat cs) (flat new) n c.change_in-given.result) (c.in-Some.ensures.some p computes parts) here)

pub invariant_of-self : goal.invariant_of-self
invariant_of-self g c =
    let cs = c.self.inside.chunks.items in
    let i = c.in-Some.first.chunk in
    let place = c.in-Some.first.place in
    let stands = c.in-Some.ensures.stands in
    let one = c.change_in-given.ensures.chunks.1 in
    let other = set (get_or cs i []) place one.after in
    let chunks : c.change_in-given.new.chunks.items ≡ set cs i other = c.change_in-given.ensures.chunks.2 ∙ ap (set cs i) one.others in
    let values : flat c.change_in-given.new.chunks.items ≡ set (flat cs) (start cs i + place) one.after = ap flat chunks ∙ flat-replace cs i place (start cs i + place) one.after stands in
    let count : length c.change_in-given.new.chunks.items ≡ length cs = ap length chunks ∙ length-set cs i other in
    record {
      counted = omega (arith, c.self.invariant.counted, ap length values, length-put (flat cs) (start cs i + place) one.after);
      dense = subst IsDense (sym chunks) (dense-set cs i other (λ h. omega (arith, dense-here cs i (omega (arith, h)) c.self.invariant.dense, length-put (get_or cs i []) place one.after)) c.self.invariant.dense);
      empty = c.self.invariant.empty;
      chunks_fit = omega (arith, count, c.self.invariant.chunks_fit, c.change_in-given.ensures.room);
      stock_fits = omega (arith, count, c.self.invariant.stock_fits);
      fits = omega (arith, count, c.self.invariant.fits);
    }
