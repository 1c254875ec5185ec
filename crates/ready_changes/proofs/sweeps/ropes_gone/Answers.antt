use Rattle.ready_changes.proofs.Dues.{are_kept, due_shown}
use Rattle.ready_changes.proofs.Made.{if_ok}
use Rattle.ready_changes.proofs.sweeps.ropes_gone.Goals as goal

pub first-requires : goal.first-requires
first-requires g c = let parts = c.args.parts.now in are_kept c.requires.0 parts.ropes parts.interests.rows parts.moment parts.next c.requires.1 c.requires.2

pub returns-clause-ropes : goal.returns-clause-ropes
returns-clause-ropes g c held d h plain graces =
    let parts = c.args.parts.now in
    if_ok _ _ c.first.result (λ ropes k. k parts.form d (due_shown held parts.ropes parts.interests.rows parts.moment parts.next parts.form c.args.graces.now d h plain graces)) c.first.ensures.swept_spots

pub returns-clause-steps : goal.returns-clause-steps
returns-clause-steps g c held d h plain graces =
    let parts = c.args.parts.now in
    c.first.ensures.steps_spots parts.form d (due_shown held parts.ropes parts.interests.rows parts.moment parts.next parts.form c.args.graces.now d h plain graces)
