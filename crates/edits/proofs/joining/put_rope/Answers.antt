use Rattle.std.proofs.Common.{◌≤◌, [], ◌∷◌, ◌++◌, take, length, sym, ◌∙◌, ap, subst, append_assoc, arith}
use Rattle.std.proofs.lemmas.List.{take_more, take_all}
use Rattle.std.proofs.lemmas.Option.{slice_get_within, get_or_from_slice_get}
use Rattle.rope_algebra.specs.Kept.{LieInFiles}
use Rattle.edits.proofs.Seen.{lie-append}
use Rattle.edits.proofs.joining.put_rope.Goals as goal

pub loop-k-preserved : goal.loop-k-preserved
loop-k-preserved c =
    let ps = c.in-Some.pieces.now in
    let k = c.loop-k.k in
    let piece = c.in-Some-piece.piece in
    let within = slice_get_within ps k piece (sym c.in-Some-piece.ensures) in
    c.in_ok-push.ensures.items ∙ ap (λ l. l ++ piece ∷ []) c.loop-k.invariant ∙ append_assoc c.args.list.now.items (take k ps) (piece ∷ [])
    ∙ ap (λ l. c.args.list.now.items ++ l) (sym (take_more ps k piece within ∙ ap (λ y. take k ps ++ y ∷ []) (get_or_from_slice_get ps k piece piece (sym c.in-Some-piece.ensures))))

pub returns-clause-ends : goal.returns-clause-ends
returns-clause-ends c = λ h.
    let ps = c.in-Some.pieces.now in
    let all : length ps ≤ c.loop-k.k = let a = c.loop-k-test.false in let b = c.count-k-end.ensures in omega (arith, a, b) in
    subst LieInFiles (sym (c.loop-k.invariant ∙ ap (λ l. c.args.list.now.items ++ l) (take_all c.loop-k.k ps all))) (lie-append c.args.list.now.items ps h c.length-length.ensures.rope.ends)
