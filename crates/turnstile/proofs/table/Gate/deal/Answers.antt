use Rattle.std.proofs.Common.{◌≡◌, ◌+◌, [], ◌∷◌, length, ap, ◌∙◌, arith, le_trans, length-append}
use Rattle.turnstile.specs.Gates.{shown_turnstile}
use Rattle.turnstile.proofs.Many.{new_put}
use Rattle.turnstile.proofs.table.Gate.deal.Goals as goal

pub loop-made-preserved : goal.loop-made-preserved
loop-made-preserved g c =
    let i = c.loop-made.invariant in
    let e = c.split-next.ensures in
    let p = c.put_last.ensures in
    let n : length c.loop-made.passes.items + 1 ≡ c.loop-made.made = i.2 in
    let h = g.T.Stands.history in (
      e.lead,
      new_put h (shown_turnstile c.args.self.now) 2 (c.loop-made.made + 1) c.loop-made.passes.items c.put_last.new.passes.items c.split-next.result p.items i.1 e.new (omega arith),
      (let m : length c.put_last.new.passes.items ≡ length c.loop-made.passes.items + 1 = ap length p.items ∙ length-append c.loop-made.passes.items (c.split-next.result ∷ []) in omega arith),
      le_trans i.3 p.room,
    )
