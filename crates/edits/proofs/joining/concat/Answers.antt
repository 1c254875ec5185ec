use Rattle.std.proofs.Common.{length, refl, sym, ◌∙◌, ap}
use Rattle.voice_units.specs.Spots.{pieces_of}
use Rattle.voice_model.specs.State.{joined}
use Rattle.voice_model.specs.Step.{first_of, if_long, if_many}
use Rattle.edits.proofs.Seen.{joined_shown}
use Rattle.edits.proofs.Refusals.{stops, goes_on, concat_conditions}
use Rattle.edits.proofs.joining.concat.Goals as goal

pub returns-in-Some : goal.returns-in-Some
returns-in-Some c = λ held s tapes h valid. ap first_of (concat_conditions held c.args.parts.now s tapes h c.args.ropes.now) ∙ stops _ _ _ (sym c.in-Some.ensures)

pub returns-in-Some-if_long : goal.returns-in-Some-if_long
returns-in-Some-if_long c = λ held s tapes h valid.
    ap first_of (concat_conditions held c.args.parts.now s tapes h c.args.ropes.now)
    ∙ goes_on _ _ _ (sym c.in_default.ensures)
    (stops _ _ _ (ap if_long (sym c.length_joined.ensures) ∙ sym c.in-Some-if_long.ensures))

pub returns-in-Some-if_many : goal.returns-in-Some-if_many
returns-in-Some-if_many c = λ held s tapes h valid.
    ap first_of (concat_conditions held c.args.parts.now s tapes h c.args.ropes.now)
    ∙ goes_on _ _ _ (sym c.in_default.ensures)
    (goes_on _ _ _ (ap if_long (sym c.length_joined.ensures) ∙ sym c.in_default-if_long.ensures)
    (stops _ _ _ (ap (λ ps. if_many (length ps)) (sym c.in_ok-pieces.ensures) ∙ sym c.in-Some-if_many.ensures)))

pub returns-in-Some-if_spent : goal.returns-in-Some-if_spent
returns-in-Some-if_spent c = λ held s tapes h valid.
    ap first_of (concat_conditions held c.args.parts.now s tapes h c.args.ropes.now)
    ∙ goes_on _ _ _ (sym c.in_default.ensures)
    (goes_on _ _ _ (ap if_long (sym c.length_joined.ensures) ∙ sym c.in_default-if_long.ensures)
    (goes_on _ _ _ (ap (λ ps. if_many (length ps)) (sym c.in_ok-pieces.ensures) ∙ sym c.in_default-if_many.ensures)
    (stops _ _ _ (sym c.in-Some-if_spent.ensures))))

pub returns : goal.returns
returns c = λ held s tapes h valid. record {
  unrefused =
      ap first_of (concat_conditions held c.args.parts.now s tapes h c.args.ropes.now)
      ∙ goes_on _ _ _ (sym c.in_default.ensures)
      (goes_on _ _ _ (ap if_long (sym c.length_joined.ensures) ∙ sym c.in_default-if_long.ensures)
      (goes_on _ _ _ (ap (λ ps. if_many (length ps)) (sym c.in_ok-pieces.ensures) ∙ sym c.in_default-if_many.ensures)
      (goes_on _ _ _ (sym c.in_default-if_spent.ensures) refl)));
  samples = joined s.ropes c.args.ropes.now;
  effect = refl;
  same = c.in_ok-pieces.ensures ∙ ap pieces_of (joined_shown held c.args.parts.now s h c.args.ropes.now);
}
