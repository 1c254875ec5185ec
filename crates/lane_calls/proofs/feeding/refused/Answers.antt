use Rattle.std.proofs.Common.{◌<◌, sym, subst}
use Rattle.lane_calls.proofs.Served.{no_job}
use Rattle.lane_calls.proofs.feeding.refused.Goals as goal

pub returns-in_default-clause-refused : goal.returns-in_default-clause-refused
returns-in_default-clause-refused c = λ fill made s tapes back h comes.
    let low = subst (λ m. m < c.args.shape.now.lanes) c.lane.view_is c.if-lane-shape.false in
    sym (no_job fill c.args.lanes.now made s tapes back c.queues.result.now c.args.lane c.args.shape.now.lanes h c.requires low c.queues.ensures.value c.in_default.ensures.value)
