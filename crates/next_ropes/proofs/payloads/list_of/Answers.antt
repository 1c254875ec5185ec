use Rattle.std.proofs.Common.{◌≡◌, [], ◌∷◌, ◌++◌, Some, sym, ◌∙◌, ap}
use Rattle.std.specs.Prelude.{slice_get}
use Rattle.next_ropes.proofs.TakenLowest.{take_get}
use Rattle.next_ropes.proofs.payloads.list_of.Goals as goal

pub loop-k-preserved : goal.loop-k-preserved
loop-k-preserved c =
    let at : slice_get c.args.pieces.now c.loop-k.k ≡ Some c.in-Some.piece = sym c.in-Some.ensures in
    c.in_ok-push.ensures.items ∙ ap (λ l. l ++ c.in-Some.piece ∷ []) c.loop-k.invariant ∙ sym (take_get c.args.pieces.now c.loop-k.k c.in-Some.piece at)
