use Rattle.std.proofs.Common.{true, refl, ap}
use Rattle.voice_model.specs.Replay.{finished, is_legal}
use Rattle.voice_model.specs.declared.changes.Change.TheVariants as changes
use Rattle.recovery.specs.Building.{phase_of}
use Rattle.recovery.proofs.Built.{built_later}
use Rattle.recovery.proofs.Rebuilding.{told}
use Rattle.recovery.proofs.building.Building.go_on_edited.Goals as goal

pub try_edited-requires-clause-parts : goal.try_edited-requires-clause-parts
try_edited-requires-clause-parts c = record { what = finished c.requires.building.what; shows = c.in_ok-end_base.ensures.parts c.requires.building.what c.requires.building.builds; in_shape = c.requires.building.in_shape }

pub returns-clause-legal : goal.returns-clause-legal
returns-clause-legal c = λ r h s. c.try_edited.ensures.legal (finished r) (c.in_ok-end_base.ensures.parts r h) s

pub returns-clause-done : goal.returns-clause-done
returns-clause-done c = λ r h s e.
    let change = changes.Edited c.args.id c.args.pieces.items in
    let rebuilt = c.in_ok-end_base.ensures.parts r h in
    let legal = told true (is_legal r change) c.try_edited.result (c.try_edited.ensures.legal (finished r) rebuilt s) e in
    built_later _ r change refl h.placed legal (ap phase_of c.in_ok-end_base.ensures.later) (c.try_edited.ensures.done (finished r) rebuilt s e)
