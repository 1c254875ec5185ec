use Rattle.std.proofs.Common.{◌≤◌, ◌+◌, length, [], refl, sym, ◌∙◌, ap, subst}
use Rattle.voice_units.specs.Spots.{pieces_of, spots_of, slice}
use Rattle.voice_model.specs.State.{samples_of}
use Rattle.voice_model.specs.Step.{first_of, if_unknown, if_outside, if_long}
use Rattle.edits.proofs.Seen.{rope_length, slice_shown, no_rope, a_rope, its_pieces, its_length}
use Rattle.edits.proofs.Refusals.{stops, goes_on, sub_conditions, lies_inside, too_long}
use Rattle.edits.proofs.cutting.sub.Goals as goal

pub returns-in_default : goal.returns-in_default
returns-in_default c = λ held s tapes h valid.
    ap first_of (sub_conditions held c.args.parts.now s tapes h c.args.rope c.args.start c.args.len)
    ∙ stops _ _ _ (ap if_unknown (no_rope c.args.parts.now.ropes.ropes c.args.rope [] c.in_default.ensures))

pub returns-in-Some-if_outside : goal.returns-in-Some-if_outside
returns-in-Some-if_outside c = λ held s tapes h valid.
    let ropes = c.args.parts.now.ropes.ropes in
    let whole = c.in-Some.whole.now in
    ap first_of (sub_conditions held c.args.parts.now s tapes h c.args.rope c.args.start c.args.len)
    ∙ goes_on _ _ _ (ap if_unknown (a_rope ropes c.args.rope [] whole c.in-Some.ensures))
    (stops _ _ _ (ap (if_outside c.args.start c.args.len) (its_length ropes c.args.rope whole c.length.result c.in-Some.ensures c.length.ensures.value) ∙ sym c.in-Some-if_outside.ensures))

pub returns-in-Some-if_long : goal.returns-in-Some-if_long
returns-in-Some-if_long c = λ held s tapes h valid.
    let ropes = c.args.parts.now.ropes.ropes in
    let whole = c.in-Some.whole.now in
    let inside : c.args.start + c.args.len ≤ length (samples_of s.ropes c.args.rope) =
    subst (λ n. c.args.start + c.args.len ≤ n) (sym (its_length ropes c.args.rope whole c.length.result c.in-Some.ensures c.length.ensures.value) ∙ rope_length held c.args.parts.now s h c.args.rope)
    (lies_inside c.args.start c.args.len c.length.result c.in_default-if_outside.ensures) in
    absurd (too_long s c.args.rope c.args.start c.args.len c.in-Some-if_long.why valid inside (c.in-Some-if_long.ensures ∙ ap if_long c.from.ensures))

pub returns-in-Some-if_spent : goal.returns-in-Some-if_spent
returns-in-Some-if_spent c = λ held s tapes h valid.
    let ropes = c.args.parts.now.ropes.ropes in
    let whole = c.in-Some.whole.now in
    ap first_of (sub_conditions held c.args.parts.now s tapes h c.args.rope c.args.start c.args.len)
    ∙ goes_on _ _ _ (ap if_unknown (a_rope ropes c.args.rope [] whole c.in-Some.ensures))
    (goes_on _ _ _ (ap (if_outside c.args.start c.args.len) (its_length ropes c.args.rope whole c.length.result c.in-Some.ensures c.length.ensures.value) ∙ sym c.in_default-if_outside.ensures)
    (stops _ _ _ (sym c.in-Some-if_spent.ensures)))

pub returns : goal.returns
returns c = λ held s tapes h valid.
    let ropes = c.args.parts.now.ropes.ropes in
    let whole = c.in-Some.whole.now in
    record {
      unrefused =
          ap first_of (sub_conditions held c.args.parts.now s tapes h c.args.rope c.args.start c.args.len)
          ∙ goes_on _ _ _ (ap if_unknown (a_rope ropes c.args.rope [] whole c.in-Some.ensures))
          (goes_on _ _ _ (ap (if_outside c.args.start c.args.len) (its_length ropes c.args.rope whole c.length.result c.in-Some.ensures c.length.ensures.value) ∙ sym c.in_default-if_outside.ensures)
          (goes_on _ _ _ (sym c.in_default-if_spent.ensures) refl));
      samples = slice (samples_of s.ropes c.args.rope) c.args.start c.args.len;
      effect = refl;
      same =
          c.in_ok-pieces.ensures ∙ ap (λ ps. pieces_of (slice (spots_of ps) c.args.start c.args.len)) (sym (its_pieces ropes c.args.rope whole c.in-Some.ensures))
          ∙ slice_shown held c.args.parts.now s h c.args.rope c.args.start c.args.len;
    }
