use Rattle.std.proofs.Common.{refl, sym, arith}
use Rattle.lane_calls.proofs.Counting.{hold_used, may_hold, part_fits}
use Rattle.lane_calls.proofs.Asked.{play_answered}
use Rattle.lane_calls.proofs.starting.play.Goals as goal

pub returns-in-Some-clause-played : goal.returns-in-Some-clause-played
returns-in-Some-clause-played c = λ fill pledged takings b s tapes st is_open. sym (c.in-Some.ensures.refused fill pledged takings c.args.made b s tapes st is_open)

pub passage_of-requires-clause-live : goal.passage_of-requires-clause-live
passage_of-requires-clause-live c = (c.in_default.ensures.may refl).live

pub passage_of-requires-clause-inside : goal.passage_of-requires-clause-inside
passage_of-requires-clause-inside c = (c.in_default.ensures.may refl).inside

pub passage_of-requires-clause-most : goal.passage_of-requires-clause-most
passage_of-requires-clause-most c =
    let runs = c.requires.runs.3 in
    part_fits _ c.args.parts.now c.requires.runs.2 c.args.rope c.args.start c.args.len runs.kept runs.valid (c.in_default.ensures.may refl).inside

pub hold-requires-clause-used : goal.hold-requires-clause-used
hold-requires-clause-used c = hold_used _ c.args.parts.now c.requires.runs.2.kept c.args.rope c.args.start c.args.len _ c.requires.runs.3.kept c.in_ok-passage.ensures

pub hold-requires-clause-fits : goal.hold-requires-clause-fits
hold-requires-clause-fits c = λ q e. may_hold c.args.parts.now.ropes _ q c.requires.runs.3.kept.uses c.requires.few (let few = c.if-count-gt-MOST_ROPES.false in let n = c.count.ensures in omega (arith, few, n))

pub push-requires-clause-lane : goal.push-requires-clause-lane
push-requires-clause-lane c = (c.in_default.ensures.may refl).known

pub push-requires-clause-room : goal.push-requires-clause-room
push-requires-clause-room c = (c.in_default.ensures.may refl).room

pub returns-clause-played : goal.returns-clause-played
returns-clause-played c = λ fill pledged takings b s tapes st is_open. (
  refl,
  play_answered fill pledged takings c.args.parts.now _ c.args.lanes.now c.push.new.self c.args.made b s tapes c.args.lane c.args.rope c.args.start c.args.len _
      st (c.in_default.ensures.may refl) (c.in_default.ensures.refused fill pledged takings c.args.made b s tapes st is_open) c.in_ok-passage.ensures
      (record { ropes = c.hold.ensures.ropes; block = c.hold.ensures.block; uses = c.hold.ensures.uses; counts = c.hold.ensures.counts }) refl refl refl refl refl
      c.push.ensures.queues c.push.ensures.frames,
)
