use Rattle.std.proofs.Common.{arith, ◌≡◌, ◌+◌, [], ◌∷◌, length, ap, sym, subst, ◌∙◌, length-append}
use Rattle.counted_row.specs.Row.{AreEmpty}
use Rattle.counted_row.proofs.Flat.{empty-push}
use Rattle.counted_row.proofs.steps.fill_stock.Goals as goal

pub loop-stock-preserved : goal.loop-stock-preserved
loop-stock-preserved g c =
    let n : length c.add_empty.new.stock.items ≡ length c.loop-stock.stock.items + 1 = ap length c.in-Ok.ensures.ok ∙ length-append c.loop-stock.stock.items ([] ∷ []) in
    let same : length c.reserve.new.self.items ≡ length c.args.chunks.now.items = ap length c.reserve.ensures.items in (
      subst AreEmpty (sym c.in-Ok.ensures.ok) (empty-push c.loop-stock.stock.items c.loop-stock.invariant.0),
      omega (arith, n, c.loop-stock.invariant.1),
      omega (arith, n, c.loop-stock-test.true, c.len-in-loop-stock.ensures, c.in_ok-reserve.ensures.ok, c.reserve.new.self.ok.0, c.loop-stock.stock.ok.0),
      omega (arith, n, same, c.in-Ok.ensures.room, c.len-count.ensures, c.args.chunks.now.ok.0),
    )
