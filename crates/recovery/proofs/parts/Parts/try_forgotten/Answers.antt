use Rattle.std.proofs.Common.{[], ◌∙◌, ap, subst, refl, Ok}
use Rattle.voice_units.specs.declared.shapes.Shape.{Shape}
use Rattle.voice_units.specs.Blocks.{has_pair, pairs_at}
use Rattle.voice_model.specs.State.{class_number}
use Rattle.voice_model.specs.State.Effect.{Forgotten}
use Rattle.voice_model.specs.Changes.{changed}
use Rattle.interest_table.proofs.Found.{others}
use Rattle.recovery.specs.Shown.{Shows}
use Rattle.recovery.proofs.Rebuilding.{plain_applied, orderly, same_samples, not_done}
use Rattle.recovery.proofs.parts.Parts.try_forgotten.Goals as goal

pub returns : goal.returns
returns c =
    let class = c.args.class in
    let key = c.args.key.now in
    let old = c.args.self.now in
    plain_applied c.args.shape.now old c.forget.new.self _ (Forgotten class key) (Ok c.forget.result) c.requires.grammar (λ r. refl)
    c.forget.ensures.blocks c.forget.ensures.form
    (λ r h s. c.forget.ensures.legal [] r.kept h.kept)
    (λ r h s e. subst (λ form. Shows [] c.forget.new.self (changed form r.kept (Forgotten class key))) h.in_form (c.forget.ensures.shows [] r.kept h.kept (orderly old r h) (ap (λ (shape : Shape). shape.graces) s)))
    (λ r h s e. c.forget.ensures.same [] r.kept h.kept (not_done c.forget.result e))
    (λ r pair h. ap (λ l. has_pair (pairs_at r.kept.shape.block l) pair) (same_samples r.form r.kept.moment (class_number class) r.kept.rows (others class key r.kept.rows) r.kept.ropes) ∙ h)
