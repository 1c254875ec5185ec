use Rattle.std.proofs.Common.{◌≡◌, Some, Ok, refl, sym, ◌∙◌, ap, arith}
use Rattle.voice_units.specs.declared.shapes.Shape.{Shape}
use Rattle.play_queue.specs.Queued.{lane_of}
use Rattle.playing.specs.Lanes.{next_window}
use Rattle.lane_calls.specs.declared.outcomes.Fed.TheVariants as feds
use Rattle.lane_calls.proofs.Addressed.{next_addresses}
use Rattle.lane_calls.proofs.Served.{may_end, feed_served, told_bytes, told_fresh, told_fault, told_back, told_stop, err_forgot, nothing_read}
use Rattle.lane_calls.proofs.Residing.{told_moves, told_holds, err_moves}
use Rattle.lane_calls.proofs.feeding.serve.Goals as goal

pub returns-in-Some-clause-served : goal.returns-in-Some-clause-served
returns-in-Some-clause-served g c = λ fill pledged takings made b s tapes st are. sym (c.in-Some.ensures.refused fill made s tapes (Some c.args.heard) st.shows refl)

pub returns-in-Some-clause-made : goal.returns-in-Some-clause-made
returns-in-Some-clause-made g c = nothing_read _ _

pub serve-requires-clause-count : goal.serve-requires-clause-count
serve-requires-clause-count g c = λ κs lives. c.requires.runs.3.size ∙ ap (λ (s : Shape). s.blocks) c.requires.runs.4

pub serve-requires-clause-addresses : goal.serve-requires-clause-addresses
serve-requires-clause-addresses g c = λ κs lives goes.
    let least = c.args.shape.now.conditions.some_block in
    next_addresses c.requires.runs.0 c.requires.runs.1 c.args.parts.now c.requires.runs.2 c.args.shape.now.block c.args.heard c.args.lanes.now.queues c.args.lane c.requires.runs.3 (ap (λ (s : Shape). s.block) c.requires.runs.4) (omega (arith, least)) goes

pub tell-requires : goal.tell-requires
tell-requires g c = may_end c.args.parts.now.ropes c.args.lanes.now c.serve.new.self c.args.shape.now.block c.args.heard c.args.lane _ c.requires.runs.3.kept.uses (c.in_default.ensures.may refl).known c.in-Ok.ensures.fed

pub returns-clause-served : goal.returns-clause-served
returns-clause-served g c = λ fill pledged takings made b s tapes st are.
    let least = c.args.shape.now.conditions.some_block in
    feed_served fill pledged takings c.args.parts.now c.args.lanes.now c.serve.new.self made b s tapes c.args.lane (Some c.args.heard) c.args.shape.now.block st (c.in_default.ensures.may refl)
    (sym (c.in_default.ensures.refused fill made s tapes (Some c.args.heard) st.shows refl)) (sym c.requires.block ∙ st.shows.block) (omega (arith, least)) c.serve.ensures.frames
    c.tell.new.parts c.tell.new.lanes _ c.tell.result are c.in-Ok.ensures.fed c.tell.ensures.told

pub returns-clause-fault : goal.returns-clause-fault
returns-clause-fault g c = λ e. c.in-Ok.ensures.fault (ap Ok (told_fault _ c.args.parts.now c.tell.new.parts c.serve.new.self c.tell.new.lanes c.tell.result c.tell.ensures.told (let same : c.tell.result ≡ feds.Fault = cc in same)))

pub returns-clause-bytes : goal.returns-clause-bytes
returns-clause-bytes g c = λ honest bytes there was. c.tell.ensures.bytes bytes (c.serve.ensures.bytes honest bytes there was)

pub returns-clause-samples : goal.returns-clause-samples
returns-clause-samples g c = λ honest bytes there was.
    told_bytes bytes c.args.shape.now.block c.args.heard (lane_of c.args.lanes.now.queues c.args.lane) _ c.args.parts.now c.tell.new.parts c.serve.new.self c.tell.new.lanes c.tell.result c.tell.ensures.told (c.in-Ok.ensures.samples honest bytes there was)

pub returns-clause-window : goal.returns-clause-window
returns-clause-window g c = told_back c.args.lease.now.len _ c.args.parts.now c.tell.new.parts c.args.lanes.now c.serve.new.self c.tell.new.lanes c.args.lane c.tell.result c.tell.ensures.told (c.in-Ok.ensures.window refl)

pub returns-clause-hinted : goal.returns-clause-hinted
returns-clause-hinted g c = λ fresh hinted. told_stop _ c.args.parts.now c.tell.new.parts c.serve.new.self c.tell.new.lanes c.tell.result c.tell.ensures.told (c.in-Ok.ensures.hinted fresh hinted)

pub returns-in_default-serve-clause-bytes : goal.returns-in_default-serve-clause-bytes
returns-in_default-serve-clause-bytes g c = λ honest bytes there was. c.forget_unused.ensures.bytes bytes (c.serve.ensures.bytes honest bytes there was)

pub returns-in_default-serve-clause-stays : goal.returns-in_default-serve-clause-stays
returns-in_default-serve-clause-stays g c = λ fill pledged takings made b s st.
    err_forgot fill pledged takings c.args.parts.now c.args.lanes.now c.serve.new.self c.forget_unused.new.self made b s c.args.shape.now.block c.args.lane (next_window c.args.shape.now.block c.args.heard (lane_of c.args.lanes.now.queues c.args.lane)) st
    c.in_default-serve.ensures.err.0 c.serve.ensures.frames c.forget_unused.ensures.queues c.forget_unused.ensures.forgets c.forget_unused.ensures.used

pub returns-clause-fresh : goal.returns-clause-fresh
returns-clause-fresh g c = told_fresh c.args.shape.now.block c.args.heard c.args.lane _ c.args.parts.now c.tell.new.parts c.args.lanes.now c.serve.new.self c.tell.new.lanes c.tell.result c.tell.ensures.told c.in-Ok.ensures.fed

pub returns-in_default-serve-clause-moves : goal.returns-in_default-serve-clause-moves
returns-in_default-serve-clause-moves g c = λ used.
    let least = c.args.shape.now.conditions.some_block in
    let runs = c.requires.runs.3 in
    err_moves c.args.parts.now c.args.shape.now.block c.args.heard c.args.lane c.args.lanes.now c.serve.new.self.frames c.forget_unused.new.self.frames runs.kept.uses (runs.kept.block ∙ ap (λ (s : Shape). s.block) c.requires.runs.4) (omega (arith, least))
    c.serve.ensures.frames c.serve.ensures.stays c.forget_unused.ensures.forgets used

pub returns-clause-holds : goal.returns-clause-holds
returns-clause-holds g c =
    let least = c.args.shape.now.conditions.some_block in
    told_holds c.args.shape.now.block c.args.heard c.args.lane _ c.args.parts.now c.tell.new.parts c.args.lanes.now c.serve.new.self c.tell.new.lanes c.tell.result (omega (arith, least)) (c.in_default.ensures.may refl).some c.in-Ok.ensures.fed c.tell.ensures.told

pub returns-clause-moves : goal.returns-clause-moves
returns-clause-moves g c = λ used.
    told_moves c.args.shape.now.block c.args.heard c.args.lane _ c.args.parts.now c.tell.new.parts c.args.lanes.now c.serve.new.self c.tell.new.lanes c.tell.result c.in-Ok.ensures.fed c.tell.ensures.told c.serve.ensures.frames c.serve.ensures.stays
