use Rattle.std.proofs.Common.{◌≡◌, ◌∙◌, ap, subst, arith}
use Rattle.std.specs.Prelude.{IfOk}
use Rattle.voice_units.specs.Spots.{pieces_of, spots_of, samples_in}
use Rattle.edits.proofs.Seen.{all_put, joined_places, joined_samples}
use Rattle.edits.proofs.joining.join.Goals as goal

pub of-requires-clause-total : goal.of-requires-clause-total
of-requires-clause-total c =
    let ropes = c.args.ropes.now.ropes in
    let ids = c.args.ids.now in
    let all = ap samples_in (c.deref.ensures.value ∙ all_put ropes ids c.loop-id.id-index c.loop-id.list.items c.loop-id-test.false c.loop-id.invariant.0) ∙ joined_samples ropes ids in
    omega (arith, all, c.requires)

pub returns : goal.returns
returns c =
    let ropes = c.args.ropes.now.ropes in
    let ids = c.args.ids.now in
    subst (λ ss. IfOk c.of.result (λ pieces. pieces ≡ pieces_of ss))
    (ap spots_of (c.deref.ensures.value ∙ all_put ropes ids c.loop-id.id-index c.loop-id.list.items c.loop-id-test.false c.loop-id.invariant.0) ∙ joined_places ropes ids)
    c.of.ensures
