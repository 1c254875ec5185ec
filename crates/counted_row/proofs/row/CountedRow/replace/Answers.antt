use Rattle.std.proofs.Common.{arith, ◌≡◌, [], length, ap, sym, subst, ◌∙◌, get_or, set, slice_get}
use Rattle.counted_row.specs.Row.{Row, flat, IsDense}
use Rattle.counted_row.proofs.Flat.{flat-get, flat-replace, dense-set, dense-here, length-set, length-put}
use Rattle.counted_row.proofs.row.CountedRow.replace.Goals as goal

pub returns-clause-value : goal.returns-clause-value
returns-clause-value g c =
    sym c.exchange-old.ensures.value
    ∙ sym (flat-get c.self.inside.chunks.items c.in-Some.spot.chunk c.in-Some.spot.place c.args.k c.in-Some.ensures.some)
    ∙ ap (λ (r : Row _). slice_get r.items c.args.k) c.self.view_is

pub returns-clause-items : goal.returns-clause-items
returns-clause-items g c =
    ap flat c.exchange-old.ensures.chunks
    ∙ flat-replace c.self.inside.chunks.items c.in-Some.spot.chunk c.in-Some.spot.place c.args.k c.args.value c.in-Some.ensures.some
    ∙ ap (λ (r : Row _). set r.items c.args.k c.args.value) c.self.view_is

pub invariant_of-self : goal.invariant_of-self
invariant_of-self g c =
    let cs = c.self.inside.chunks.items in
    let i = c.in-Some.spot.chunk in
    let place = c.in-Some.spot.place in
    let stands = c.in-Some.ensures.some in
    let other = set (get_or cs i []) place c.args.value in
    let values : flat c.exchange-old.new.chunks.items ≡ set (flat cs) c.args.k c.args.value = ap flat c.exchange-old.ensures.chunks ∙ flat-replace cs i place c.args.k c.args.value stands in
    let count : length c.exchange-old.new.chunks.items ≡ length cs = ap length c.exchange-old.ensures.chunks ∙ length-set cs i other in
    record {
      counted = omega (arith, c.self.invariant.counted, ap length values, length-put (flat cs) c.args.k c.args.value);
      dense = subst IsDense (sym c.exchange-old.ensures.chunks) (dense-set cs i other (λ h. omega (arith, dense-here cs i (omega (arith, h)) c.self.invariant.dense, length-put (get_or cs i []) place c.args.value)) c.self.invariant.dense);
      empty = c.self.invariant.empty;
      chunks_fit = omega (arith, count, c.self.invariant.chunks_fit, c.exchange-old.ensures.room);
      stock_fits = omega (arith, count, c.self.invariant.stock_fits);
      fits = omega (arith, count, c.self.invariant.fits);
    }
