use Rattle.std.proofs.Common.{◌≡◌, None, Ok, inl, refl, sym, ◌∙◌, ap, arith}
use Rattle.voice_units.specs.declared.shapes.Shape.{Shape}
use Rattle.lane_calls.specs.declared.outcomes.Fed.TheVariants as feds
use Rattle.play_queue.specs.Queued.{lane_of}
use Rattle.playing.specs.Lanes.{next_window}
use Rattle.playing.proofs.Moved.{moves_sent}
use Rattle.lane_calls.proofs.Addressed.{next_addresses}
use Rattle.lane_calls.proofs.Served.{may_end, feed_served, told_bytes, told_fresh, told_fault, err_stays, nothing_read, apart, on_err}
use Rattle.lane_calls.proofs.Residing.{told_moves, told_holds}
use Rattle.lane_calls.proofs.feeding.feed.Goals as goal

pub returns-in-Some-clause-served : goal.returns-in-Some-clause-served
returns-in-Some-clause-served g c = λ fill pledged takings made b s tapes st are. sym (c.in-Some.ensures.refused fill made s tapes None st.shows refl)

pub returns-in-Some-clause-made : goal.returns-in-Some-clause-made
returns-in-Some-clause-made g c = nothing_read _ _

pub feed-requires-clause-count : goal.feed-requires-clause-count
feed-requires-clause-count g c = λ κs lives. c.requires.runs.3.size ∙ ap (λ (s : Shape). s.blocks) c.requires.runs.4

pub feed-requires-clause-addresses : goal.feed-requires-clause-addresses
feed-requires-clause-addresses g c = λ κs lives goes.
    let least = c.args.shape.now.conditions.some_block in
    next_addresses c.requires.runs.0 c.requires.runs.1 c.args.parts.now c.requires.runs.2 c.args.shape.now.block 0 c.args.lanes.now.queues c.args.lane c.requires.runs.3 (ap (λ (s : Shape). s.block) c.requires.runs.4) (omega (arith, least)) goes

pub tell-requires : goal.tell-requires
tell-requires g c = may_end c.args.parts.now.ropes c.args.lanes.now c.feed.new.self c.args.shape.now.block 0 c.args.lane _ c.requires.runs.3.kept.uses (c.in_default.ensures.may refl).known c.in_ok-turned.ensures.fed

pub returns-clause-served : goal.returns-clause-served
returns-clause-served g c = λ fill pledged takings made b s tapes st are.
    let least = c.args.shape.now.conditions.some_block in
    feed_served fill pledged takings c.args.parts.now c.args.lanes.now c.feed.new.self made b s tapes c.args.lane None c.args.shape.now.block st (c.in_default.ensures.may refl)
    (sym (c.in_default.ensures.refused fill made s tapes None st.shows refl)) (sym c.requires.block ∙ st.shows.block) (omega (arith, least)) c.feed.ensures.frames
    c.tell.new.parts c.tell.new.lanes _ c.tell.result are c.in_ok-turned.ensures.fed c.tell.ensures.told

pub returns-clause-fault : goal.returns-clause-fault
returns-clause-fault g c = λ e. c.in_ok-turned.ensures.fault (ap Ok (told_fault _ c.args.parts.now c.tell.new.parts c.feed.new.self c.tell.new.lanes c.tell.result c.tell.ensures.told (let same : c.tell.result ≡ feds.Fault = cc in same)))

pub returns-clause-bytes : goal.returns-clause-bytes
returns-clause-bytes g c = λ honest bytes there was. c.tell.ensures.bytes bytes (c.feed.ensures.bytes honest bytes there was)

pub returns-clause-samples : goal.returns-clause-samples
returns-clause-samples g c = λ honest bytes there was.
    told_bytes bytes c.args.shape.now.block 0 (lane_of c.args.lanes.now.queues c.args.lane) _ c.args.parts.now c.tell.new.parts c.feed.new.self c.tell.new.lanes c.tell.result c.tell.ensures.told (c.in_ok-turned.ensures.samples honest bytes there was)

pub returns-in_err-turned-clause-stays : goal.returns-in_err-turned-clause-stays
returns-in_err-turned-clause-stays g c = λ fill pledged takings made b s st.
    let least = c.args.shape.now.conditions.some_block in
    on_err c.from_residual.result (err_stays fill pledged takings c.args.parts.now c.args.lanes.now c.feed.new.self made b s c.args.shape.now.block 0 c.args.lane st c.requires.block (omega (arith, least))
    (λ e. apart (c.in_err-turned.ensures.spare (inl e))) c.in_err-turned.ensures.err.0 c.feed.ensures.frames)

pub returns-clause-fresh : goal.returns-clause-fresh
returns-clause-fresh g c = told_fresh c.args.shape.now.block 0 c.args.lane _ c.args.parts.now c.tell.new.parts c.args.lanes.now c.feed.new.self c.tell.new.lanes c.tell.result c.tell.ensures.told c.in_ok-turned.ensures.fed

pub returns-in_err-turned-clause-moves : goal.returns-in_err-turned-clause-moves
returns-in_err-turned-clause-moves g c =
    moves_sent _ c.args.shape.now.block c.args.lane (next_window c.args.shape.now.block 0 (lane_of c.args.lanes.now.queues c.args.lane)) c.args.lanes.now.frames c.feed.new.self.frames c.feed.ensures.frames

pub returns-clause-holds : goal.returns-clause-holds
returns-clause-holds g c =
    let least = c.args.shape.now.conditions.some_block in
    told_holds c.args.shape.now.block 0 c.args.lane _ c.args.parts.now c.tell.new.parts c.args.lanes.now c.feed.new.self c.tell.new.lanes c.tell.result (omega (arith, least)) (c.in_default.ensures.may refl).some c.in_ok-turned.ensures.fed c.tell.ensures.told

pub returns-clause-moves : goal.returns-clause-moves
returns-clause-moves g c =
    told_moves c.args.shape.now.block 0 c.args.lane _ c.args.parts.now c.tell.new.parts c.args.lanes.now c.feed.new.self c.tell.new.lanes c.tell.result c.in_ok-turned.ensures.fed c.tell.ensures.told c.feed.ensures.frames c.feed.ensures.stays
