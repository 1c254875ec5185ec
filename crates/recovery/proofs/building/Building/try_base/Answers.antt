use Rattle.std.proofs.Common.{◌≡◌, ◌&&◌, true, refl, sym, ◌∙◌, ap, eq-eqb}
use Rattle.voice_model.specs.Replay.{is_begun}
use Rattle.voice_model.specs.declared.changes.Change.TheVariants as changes
use Rattle.recovery.specs.Building.{phase_of}
use Rattle.recovery.proofs.building.Building.try_base.Goals as goal

pub returns-clause-done : goal.returns-clause-done
returns-clause-done c = λ r h e.
    let fresh : is_begun r.phase ≡ true = ap is_begun (sym h.stage) ∙ ap (λ s. is_begun (phase_of s)) c.in-Begun.is in
    c.begin.ensures r (changes.Base c.args.now c.args.next) h (ap (λ b. b && is_begun r.phase) (eq-eqb r.form 1 (sym h.in_form ∙ c.if-self-ne1.false)) ∙ fresh) c.requires fresh refl
