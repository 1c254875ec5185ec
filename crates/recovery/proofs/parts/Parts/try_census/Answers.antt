use Rattle.std.proofs.Common.{true, [], refl, sym, ◌∙◌, ap, subst, Ok}
use Rattle.voice_units.specs.declared.shapes.Shape.{Shape}
use Rattle.voice_units.specs.Blocks.{has_pair, pairs_at}
use Rattle.voice_model.specs.State.Effect.{Counted}
use Rattle.voice_model.specs.Changes.{changed, rows_left}
use Rattle.voice_model.specs.Replay.{each_listed}
use Rattle.recovery.specs.Shown.{Shows}
use Rattle.recovery.proofs.Rebuilding.{plain_applied, orderly, same_samples}
use Rattle.recovery.proofs.parts.Parts.try_census.Goals as goal

pub returns : goal.returns
returns c =
    let old = c.args.self.now in
    let keys = c.args.keys.now in
    plain_applied c.args.shape.now old c.drop_rows.new.self _ (Counted keys) (Ok true) c.requires.grammar (λ r. refl)
    c.drop_rows.ensures.blocks c.drop_rows.ensures.form
    (λ r h s. sym c.if-not-branch.false ∙ c.in_ok-are_listed.ensures ∙ ap (λ l. each_listed l keys) h.kept.rows)
    (λ r h s e. subst (λ form. Shows [] c.drop_rows.new.self (changed form r.kept (Counted keys))) h.in_form (c.in_ok-drop_rows.ensures.shows [] r.kept h.kept (orderly old r h) (ap (λ (shape : Shape). shape.graces) s)))
    (λ r h s e. absurd (e refl))
    (λ r pair h. ap (λ l. has_pair (pairs_at r.kept.shape.block l) pair) (same_samples r.form r.kept.moment 3 r.kept.rows (rows_left r.kept.rows keys) r.kept.ropes) ∙ h)
