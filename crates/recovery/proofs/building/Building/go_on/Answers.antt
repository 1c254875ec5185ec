use Rattle.std.proofs.Common.{◌≡◌, Bool, true, ap, subst}
use Rattle.std.specs.Prelude.{IfOk}
use Rattle.voice_model.specs.Replay.{finished, is_legal}
use Rattle.recovery.specs.Building.{phase_of}
use Rattle.recovery.proofs.Finished.{legal_finished}
use Rattle.recovery.proofs.Built.{built_later}
use Rattle.recovery.proofs.Rebuilding.{told}
use Rattle.recovery.proofs.building.Building.go_on.Goals as goal

pub apply-requires-clause-parts : goal.apply-requires-clause-parts
apply-requires-clause-parts c = record { what = finished c.requires.building.what; shows = c.in_ok-end_base.ensures.parts c.requires.building.what c.requires.building.builds; in_shape = c.requires.building.in_shape }

pub returns-clause-legal : goal.returns-clause-legal
returns-clause-legal c = λ r h s.
    subst (λ (b : Bool). IfOk c.apply.result (λ done. done ≡ b)) (legal_finished r c.args.change.now c.requires.kind) (c.apply.ensures.legal (finished r) (c.in_ok-end_base.ensures.parts r h) s)

pub returns-clause-done : goal.returns-clause-done
returns-clause-done c = λ r h s e.
    let change = c.args.change.now in
    let rebuilt = c.in_ok-end_base.ensures.parts r h in
    let legal = told true (is_legal r change) c.apply.result (subst (λ (b : Bool). IfOk c.apply.result (λ done. done ≡ b)) (legal_finished r change c.requires.kind) (c.apply.ensures.legal (finished r) rebuilt s)) e in
    built_later _ r change c.requires.kind h.placed legal (ap phase_of c.in_ok-end_base.ensures.later) (c.apply.ensures.done (finished r) rebuilt s e)
