use Rattle.std.proofs.Common.{◌<◌, refl, subst}
use Rattle.lane_calls.proofs.Asked.{split_off, stop_answered}
use Rattle.lane_calls.proofs.LetGo.{let_go_keeps}
use Rattle.lane_calls.proofs.stopping.stop.Goals as goal

pub let_go_jobs-requires-clause-held : goal.let_go_jobs-requires-clause-held
let_go_jobs-requires-clause-held g c =
    let low = subst (λ m. m < c.args.shape.now.lanes) c.lane.view_is c.if-lane-shape.false in
    split_off c.args.parts.now.ropes c.args.lanes.now.queues c.queues.result.now c.args.lane c.args.shape.now.lanes c.requires.lanes low c.queues.ensures.value c.requires.held

pub returns-clause-stopped : goal.returns-clause-stopped
returns-clause-stopped g c = λ fill pledged takings made b s tapes st are.
    let low = subst (λ m. m < c.args.shape.now.lanes) c.lane.view_is c.if-lane-shape.false in
    stop_answered fill pledged takings c.args.parts.now _ c.args.lanes.now c.forget_unused.new.self c.stop.new.self c.queues.result.now made b s tapes c.args.lane c.args.shape.now.lanes c.stop.result
    st are c.requires.lanes low c.queues.ensures.value c.let_go_jobs.ensures.gone refl refl refl refl
    c.forget_unused.ensures.queues c.forget_unused.ensures.forgets c.forget_unused.ensures.used c.stop.ensures.newly c.stop.ensures.queues c.stop.ensures.frames

pub returns-clause-addresses : goal.returns-clause-addresses
returns-clause-addresses g c = let_go_keeps c.args.parts.now.blocks.holders c.let_go_jobs.new.blocks.holders c.let_go_jobs.ensures.gone
