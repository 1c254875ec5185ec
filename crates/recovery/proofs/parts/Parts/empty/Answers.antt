use Rattle.std.proofs.Common.{◌≡◌, cond, ℕ, refl, sym, ◌∙◌, ap, eq-eqb}
use Rattle.voice_model.specs.State.{form_of}
use Rattle.recovery.proofs.Ropes.{not_equal}
use Rattle.recovery.proofs.Rebuilding.{nothing_shown}
use Rattle.recovery.proofs.parts.Parts.empty.Goals.{then-shape-eq2, else-shape-eq2}
use Rattle.recovery.proofs.parts.Parts.empty.Goals as goal

pub returns : goal.returns
returns c =
    let version = c.args.shape.now.version in
    let form : c.if-shape-eq2.form ≡ form_of version =
    elim c.if-shape-eq2.branch [
      | then-shape-eq2 w ↦ w.form-is ∙ ap (λ b. cond {A = ℕ} b 2 1) (sym (eq-eqb version 2 w.if-shape-eq2.true))
      | else-shape-eq2 w ↦ w.form-is ∙ ap (λ b. cond {A = ℕ} b 2 1) (sym (not_equal version 2 w.if-shape-eq2.false))
    ] in
    nothing_shown _ c.args.shape.now c.new.ensures.block c.new.ensures.ropes c.new.ensures.counts c.new-2.ensures c.in_ok-new.ensures refl refl form
