use Rattle.std.proofs.Common.{◌<◌, [], sym, ◌∙◌, ap, subst, arith}
use Rattle.voice_model.specs.Step.{if_unknown, if_outside, when}
use Rattle.voice_model.specs.declared.calls.Why.TheVariants as why
use Rattle.edits.proofs.Seen.{no_rope, a_rope, its_length}
use Rattle.edits.proofs.Refusals.{stops, goes_on}
use Rattle.lane_calls.proofs.Asked.{play_conditions, last_one, is_full, not_full}
use Rattle.lane_calls.proofs.starting.refused.Goals as goal

pub returns-in_default-clause-refused : goal.returns-in_default-clause-refused
returns-in_default-clause-refused c = λ fill pledged takings made b s tapes st is_open.
    let low = subst (λ m. m < c.args.shape.now.lanes) c.lane.view_is c.if-lane-shape.false in
    sym (play_conditions fill pledged takings c.args.parts.now c.args.lanes.now made b s tapes st c.args.lane c.args.rope c.args.start c.args.len c.args.shape.now.lanes c.args.records c.requires low is_open
    ∙ stops _ _ _ (ap if_unknown (no_rope c.args.parts.now.ropes.ropes c.args.rope [] c.in_default.ensures)))

pub returns-then-records-clause-refused : goal.returns-then-records-clause-refused
returns-then-records-clause-refused c = λ fill pledged takings made b s tapes st is_open.
    let low = subst (λ m. m < c.args.shape.now.lanes) c.lane.view_is c.if-lane-shape.false in
    sym (play_conditions fill pledged takings c.args.parts.now c.args.lanes.now made b s tapes st c.args.lane c.args.rope c.args.start c.args.len c.args.shape.now.lanes c.args.records c.requires low is_open
    ∙ goes_on _ _ _ (ap if_unknown (a_rope c.args.parts.now.ropes.ropes c.args.rope [] c.in-Some.whole.now c.in-Some.ensures))
    (stops _ _ _ (ap (λ t. when t why.LaneRecording) c.if-records.true)))

pub returns-then-count-ge-MOST_JOBS-clause-refused : goal.returns-then-count-ge-MOST_JOBS-clause-refused
returns-then-count-ge-MOST_JOBS-clause-refused c = λ fill pledged takings made b s tapes st is_open.
    let low = subst (λ m. m < c.args.shape.now.lanes) c.lane.view_is c.if-lane-shape.false in
    let full = c.if-count-ge-MOST_JOBS.true in
    sym (play_conditions fill pledged takings c.args.parts.now c.args.lanes.now made b s tapes st c.args.lane c.args.rope c.args.start c.args.len c.args.shape.now.lanes c.args.records c.requires low is_open
    ∙ goes_on _ _ _ (ap if_unknown (a_rope c.args.parts.now.ropes.ropes c.args.rope [] c.in-Some.whole.now c.in-Some.ensures))
    (goes_on _ _ _ (ap (λ t. when t why.LaneRecording) c.if-records.false)
    (stops _ _ _ (is_full c.args.lanes.now.queues c.queues.result.now c.args.lane c.count.result c.count.ensures.value c.queues.ensures.value (omega (arith, full))))))

pub returns-clause-refused : goal.returns-clause-refused
returns-clause-refused c = λ fill pledged takings made b s tapes st is_open.
    let low = subst (λ m. m < c.args.shape.now.lanes) c.lane.view_is c.if-lane-shape.false in
    let room = c.if-count-ge-MOST_JOBS.false in
    sym (play_conditions fill pledged takings c.args.parts.now c.args.lanes.now made b s tapes st c.args.lane c.args.rope c.args.start c.args.len c.args.shape.now.lanes c.args.records c.requires low is_open
    ∙ goes_on _ _ _ (ap if_unknown (a_rope c.args.parts.now.ropes.ropes c.args.rope [] c.in-Some.whole.now c.in-Some.ensures))
    (goes_on _ _ _ (ap (λ t. when t why.LaneRecording) c.if-records.false)
    (goes_on _ _ _ (not_full c.args.lanes.now.queues c.queues.result.now c.args.lane c.count.result c.count.ensures.value c.queues.ensures.value (omega (arith, room)))
    (last_one (if_outside c.args.start c.args.len _)
    ∙ ap (if_outside c.args.start c.args.len) (its_length c.args.parts.now.ropes.ropes c.args.rope c.in-Some.whole.now c.length.result c.in-Some.ensures c.length.ensures.value)
    ∙ sym c.if_outside.ensures))))
