use Rattle.std.proofs.Common.{[], ◌∷◌, None, refl, sym, ◌∙◌, ap}
use Rattle.voice_model.specs.Step.{if_unknown}
use Rattle.voice_model.specs.declared.calls.Reply.TheVariants as replies
use Rattle.edits.proofs.Seen.{missing_shown, rope_length, no_rope, a_rope, its_length}
use Rattle.edits.proofs.Refusals.{stops, goes_on}
use Rattle.edits.proofs.lookups.length.Goals as goal

pub returns-in_default : goal.returns-in_default
returns-in_default c = λ held s tapes h.
    let ropes = c.args.parts.now.ropes.ropes in
    stops _ [] _ (ap if_unknown (sym (missing_shown held c.args.parts.now s h (c.args.rope ∷ [])) ∙ no_rope ropes c.args.rope [] c.in_default.ensures))

pub returns : goal.returns
returns c = λ held s tapes h.
    let ropes = c.args.parts.now.ropes.ropes in (
      goes_on _ [] None (ap if_unknown (sym (missing_shown held c.args.parts.now s h (c.args.rope ∷ [])) ∙ a_rope ropes c.args.rope [] c.in-Some.pieces.now c.in-Some.ensures)) refl,
      ap replies.Number (sym (rope_length held c.args.parts.now s h c.args.rope) ∙ its_length ropes c.args.rope c.in-Some.pieces.now c.length.result c.in-Some.ensures c.length.ensures.value),
    )
