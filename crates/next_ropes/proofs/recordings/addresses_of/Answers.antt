use Rattle.std.proofs.Common.{◌≡◌, [], ◌∷◌, ◌++◌, Some, sym, ◌∙◌, ap, arith}
use Rattle.std.specs.Prelude.{slice_get}
use Rattle.std.proofs.lemmas.List.{take_all}
use Rattle.next_ropes.proofs.TakenLowest.{take_get, each_at}
use Rattle.next_ropes.proofs.recordings.addresses_of.Goals as goal

pub returns-in_default : goal.returns-in_default
returns-in_default c = λ addresses h.
    let test = c.loop-index-test.true in
    let many = h.many in
    let one = each_at c.args.blocks.now.holders c.args.file 0 c.loop-index.index c.loop-index.index addresses (omega arith) h.each (omega (arith, test, many)) in
    absurd (c.in_default.ensures.absent one.address one.held)

pub loop-index-preserved : goal.loop-index-preserved
loop-index-preserved c = λ addresses h.
    let test = c.loop-index-test.true in
    let many = h.many in
    let one = each_at c.args.blocks.now.holders c.args.file 0 c.loop-index.index c.loop-index.index addresses (omega arith) h.each (omega (arith, test, many)) in
    let at : slice_get addresses c.loop-index.index ≡ Some c.in-Some.address = one.at ∙ ap Some (c.in-Some.ensures.only one.address one.held) in
    c.in_ok-push.ensures.items ∙ ap (λ l. l ++ c.in-Some.address ∷ []) (c.loop-index.invariant addresses h) ∙ sym (take_get addresses c.loop-index.index c.in-Some.address at)

pub returns : goal.returns
returns c = λ addresses h.
    let test = c.loop-index-test.false in
    let many = h.many in
    c.loop-index.invariant addresses h ∙ take_all c.loop-index.index addresses (omega (arith, test, many))
