use Rattle.std.proofs.Common.{length, [], ◌∷◌, refl, sym, ◌∙◌, ap}
use Rattle.voice_units.specs.Spots.{replaced}
use Rattle.voice_model.specs.State.{samples_of}
use Rattle.voice_model.specs.Step.{first_of, if_unknown, if_outside, if_long, if_many}
use Rattle.edits.proofs.Seen.{replaced_shown, no_rope, a_rope, its_length, size_of_replaced, pieces_of_replaced}
use Rattle.edits.proofs.Refusals.{stops, goes_on, replace_conditions, lies_inside}
use Rattle.edits.proofs.cutting.replace.Goals as goal

pub returns-in_default : goal.returns-in_default
returns-in_default c = λ held s tapes h valid.
    ap first_of (replace_conditions held c.args.parts.now s tapes h c.args.rope c.args.start c.args.len c.args.with)
    ∙ stops _ _ _ (ap if_unknown (no_rope c.args.parts.now.ropes.ropes c.args.rope (c.args.with ∷ []) c.in_default.ensures))

pub returns-in_default-get : goal.returns-in_default-get
returns-in_default-get c = λ held s tapes h valid.
    let ropes = c.args.parts.now.ropes.ropes in
    ap first_of (replace_conditions held c.args.parts.now s tapes h c.args.rope c.args.start c.args.len c.args.with)
    ∙ stops _ _ _ (ap if_unknown (a_rope ropes c.args.rope (c.args.with ∷ []) c.in-Some.whole.now c.in-Some.ensures ∙ no_rope ropes c.args.with [] c.in_default-get.ensures))

pub returns-in-Some-if_outside : goal.returns-in-Some-if_outside
returns-in-Some-if_outside c = λ held s tapes h valid.
    let ropes = c.args.parts.now.ropes.ropes in
    let whole = c.in-Some.whole.now in
    let other = c.in-Some-get.other.now in
    ap first_of (replace_conditions held c.args.parts.now s tapes h c.args.rope c.args.start c.args.len c.args.with)
    ∙ goes_on _ _ _ (ap if_unknown (a_rope ropes c.args.rope (c.args.with ∷ []) whole c.in-Some.ensures ∙ a_rope ropes c.args.with [] other c.in-Some-get.ensures))
    (stops _ _ _ (ap (if_outside c.args.start c.args.len) (its_length ropes c.args.rope whole c.length-length.result c.in-Some.ensures c.length-length.ensures.value) ∙ sym c.in-Some-if_outside.ensures))

pub returns-in-Some-if_long : goal.returns-in-Some-if_long
returns-in-Some-if_long c = λ held s tapes h valid.
    let ropes = c.args.parts.now.ropes.ropes in
    let whole = c.in-Some.whole.now in
    let other = c.in-Some-get.other.now in
    ap first_of (replace_conditions held c.args.parts.now s tapes h c.args.rope c.args.start c.args.len c.args.with)
    ∙ goes_on _ _ _ (ap if_unknown (a_rope ropes c.args.rope (c.args.with ∷ []) whole c.in-Some.ensures ∙ a_rope ropes c.args.with [] other c.in-Some-get.ensures))
    (goes_on _ _ _ (ap (if_outside c.args.start c.args.len) (its_length ropes c.args.rope whole c.length-length.result c.in-Some.ensures c.length-length.ensures.value) ∙ sym c.in_default-if_outside.ensures)
    (stops _ _ _ (ap if_long (size_of_replaced ropes c.args.rope c.args.start c.args.len c.args.with whole other c.length-length.result c.length.result c.in-Some.ensures c.in-Some-get.ensures c.length-length.ensures.value c.length.ensures.value (lies_inside c.args.start c.args.len c.length-length.result c.in_default-if_outside.ensures) ∙ sym c.replaced_length.ensures) ∙ sym c.in-Some-if_long.ensures)))

pub returns-in-Some-if_many : goal.returns-in-Some-if_many
returns-in-Some-if_many c = λ held s tapes h valid.
    let ropes = c.args.parts.now.ropes.ropes in
    let whole = c.in-Some.whole.now in
    let other = c.in-Some-get.other.now in
    ap first_of (replace_conditions held c.args.parts.now s tapes h c.args.rope c.args.start c.args.len c.args.with)
    ∙ goes_on _ _ _ (ap if_unknown (a_rope ropes c.args.rope (c.args.with ∷ []) whole c.in-Some.ensures ∙ a_rope ropes c.args.with [] other c.in-Some-get.ensures))
    (goes_on _ _ _ (ap (if_outside c.args.start c.args.len) (its_length ropes c.args.rope whole c.length-length.result c.in-Some.ensures c.length-length.ensures.value) ∙ sym c.in_default-if_outside.ensures)
    (goes_on _ _ _ (ap if_long (size_of_replaced ropes c.args.rope c.args.start c.args.len c.args.with whole other c.length-length.result c.length.result c.in-Some.ensures c.in-Some-get.ensures c.length-length.ensures.value c.length.ensures.value (lies_inside c.args.start c.args.len c.length-length.result c.in_default-if_outside.ensures) ∙ sym c.replaced_length.ensures) ∙ sym c.in_default-if_long.ensures)
    (stops _ _ _ (ap (λ ps. if_many (length ps)) (pieces_of_replaced ropes c.args.rope c.args.start c.args.len c.args.with whole other c.in-Some.ensures c.in-Some-get.ensures ∙ sym c.in_ok-pieces.ensures) ∙ sym c.in-Some-if_many.ensures))))

pub returns-in-Some-if_spent : goal.returns-in-Some-if_spent
returns-in-Some-if_spent c = λ held s tapes h valid.
    let ropes = c.args.parts.now.ropes.ropes in
    let whole = c.in-Some.whole.now in
    let other = c.in-Some-get.other.now in
    ap first_of (replace_conditions held c.args.parts.now s tapes h c.args.rope c.args.start c.args.len c.args.with)
    ∙ goes_on _ _ _ (ap if_unknown (a_rope ropes c.args.rope (c.args.with ∷ []) whole c.in-Some.ensures ∙ a_rope ropes c.args.with [] other c.in-Some-get.ensures))
    (goes_on _ _ _ (ap (if_outside c.args.start c.args.len) (its_length ropes c.args.rope whole c.length-length.result c.in-Some.ensures c.length-length.ensures.value) ∙ sym c.in_default-if_outside.ensures)
    (goes_on _ _ _ (ap if_long (size_of_replaced ropes c.args.rope c.args.start c.args.len c.args.with whole other c.length-length.result c.length.result c.in-Some.ensures c.in-Some-get.ensures c.length-length.ensures.value c.length.ensures.value (lies_inside c.args.start c.args.len c.length-length.result c.in_default-if_outside.ensures) ∙ sym c.replaced_length.ensures) ∙ sym c.in_default-if_long.ensures)
    (goes_on _ _ _ (ap (λ ps. if_many (length ps)) (pieces_of_replaced ropes c.args.rope c.args.start c.args.len c.args.with whole other c.in-Some.ensures c.in-Some-get.ensures ∙ sym c.in_ok-pieces.ensures) ∙ sym c.in_default-if_many.ensures)
    (stops _ _ _ (sym c.in-Some-if_spent.ensures)))))

pub returns : goal.returns
returns c = λ held s tapes h valid.
    let ropes = c.args.parts.now.ropes.ropes in
    let whole = c.in-Some.whole.now in
    let other = c.in-Some-get.other.now in
    record {
      unrefused =
          ap first_of (replace_conditions held c.args.parts.now s tapes h c.args.rope c.args.start c.args.len c.args.with)
          ∙ goes_on _ _ _ (ap if_unknown (a_rope ropes c.args.rope (c.args.with ∷ []) whole c.in-Some.ensures ∙ a_rope ropes c.args.with [] other c.in-Some-get.ensures))
          (goes_on _ _ _ (ap (if_outside c.args.start c.args.len) (its_length ropes c.args.rope whole c.length-length.result c.in-Some.ensures c.length-length.ensures.value) ∙ sym c.in_default-if_outside.ensures)
          (goes_on _ _ _ (ap if_long (size_of_replaced ropes c.args.rope c.args.start c.args.len c.args.with whole other c.length-length.result c.length.result c.in-Some.ensures c.in-Some-get.ensures c.length-length.ensures.value c.length.ensures.value (lies_inside c.args.start c.args.len c.length-length.result c.in_default-if_outside.ensures) ∙ sym c.replaced_length.ensures) ∙ sym c.in_default-if_long.ensures)
          (goes_on _ _ _ (ap (λ ps. if_many (length ps)) (pieces_of_replaced ropes c.args.rope c.args.start c.args.len c.args.with whole other c.in-Some.ensures c.in-Some-get.ensures ∙ sym c.in_ok-pieces.ensures) ∙ sym c.in_default-if_many.ensures)
          (goes_on _ _ _ (sym c.in_default-if_spent.ensures) refl))));
      samples = replaced (samples_of s.ropes c.args.rope) c.args.start c.args.len (samples_of s.ropes c.args.with);
      effect = refl;
      same = sym (pieces_of_replaced ropes c.args.rope c.args.start c.args.len c.args.with whole other c.in-Some.ensures c.in-Some-get.ensures ∙ sym c.in_ok-pieces.ensures) ∙ replaced_shown held c.args.parts.now s h c.args.rope c.args.start c.args.len c.args.with;
    }
