use Rattle.std.proofs.Common.{◌≡◌, true, refl, sym, ◌∙◌, ap}
use Rattle.voice_model.specs.Replay.{is_begun}
use Rattle.voice_model.specs.declared.changes.Change.TheVariants as changes
use Rattle.recovery.specs.Building.{phase_of}
use Rattle.recovery.proofs.building.Building.try_base2.Goals as goal

pub returns-clause-done : goal.returns-clause-done
returns-clause-done c = λ r h e.
    let fresh : is_begun r.phase ≡ true = ap is_begun (sym h.stage) ∙ ap (λ s. is_begun (phase_of s)) c.in-Begun.is in
    c.begin.ensures r (changes.Base2 c.args.now c.args.next) h fresh c.requires fresh refl
