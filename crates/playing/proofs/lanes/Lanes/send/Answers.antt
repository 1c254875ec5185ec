use Rattle.std.proofs.Common.{◌≡◌, ◌∙◌, ◌≤◌, length, sym, ap, subst, arith, List, ℕ, Option}
use Rattle.voice_units.specs.declared.pieces.Piece.{Piece}
use Rattle.voice_units.specs.Spots.{samples_in}
use Rattle.play_queue.specs.Queued.{lane_of}
use Rattle.playing.specs.Frames.{HoldsBytes, AreReady}
use Rattle.frame_pool.specs.Pool.{stage_of}
use Rattle.playing.specs.Windows.{AreStretches, IsOut}
use Rattle.playing.specs.Lanes.{LanesState, next_window}
use Rattle.playing.specs.declared.blocks.Block.{Block}
use Rattle.playing.proofs.Bringing.{are_ready}
use Rattle.playing.proofs.Laning.{heard_is, same_frames}
use Rattle.playing.proofs.Sending.{can_send, sent_is, send_lanes, fits_in, advanced_low, advanced_some, sent_to, sent_to_seen, leased_samples, sent_queues}
use Rattle.playing.proofs.lanes.Lanes.send.Goals as goal

pub returns-in_default-bring_in-clause-bytes : goal.returns-in_default-bring_in-clause-bytes
returns-in_default-bring_in-clause-bytes g c honest bytes there was = c.bring_in.ensures.bytes honest bytes there (subst (λ (s : LanesState). HoldsBytes bytes s.frames) (sym c.self.view_is) was)

pub grant-requires-clause-least : goal.grant-requires-clause-least
grant-requires-clause-least g c =
    let can = can_send c.args.shape.now.block c.args.more c.args.self.now _ c.args.lane c.self.view_is c.requires.least c.requires.lane c.requires.some c.requires.goes_on c.requires.rest in
    subst (λ (l : List Piece). 1 ≤ length l) (sym (c.deref-2.ensures.value ∙ c.in-Ok.ensures.window)) can.window.least

pub grant-requires-clause-stretches : goal.grant-requires-clause-stretches
grant-requires-clause-stretches g c =
    let can = can_send c.args.shape.now.block c.args.more c.args.self.now _ c.args.lane c.self.view_is c.requires.least c.requires.lane c.requires.some c.requires.goes_on c.requires.rest in
    subst (AreStretches c.args.shape.now.block) (sym (c.deref-2.ensures.value ∙ c.in-Ok.ensures.window)) can.window.stretches

pub returns-in_default-grant-clause-frames : goal.returns-in_default-grant-clause-frames
returns-in_default-grant-clause-frames g c =
    sent_to_seen c.args.shape.now.block (next_window c.args.shape.now.block c.args.more (lane_of c.args.self.now.queues c.args.lane)) c.deref.result.now c.args.lane c.args.self.now _ c.bring_in.new.self c.grant.new.self c.self.view_is (c.deref.ensures.value ∙ c.in-Ok.ensures.window) c.bring_in.ensures.frames c.grant.ensures.others

pub returns-in_default-grant-clause-bytes : goal.returns-in_default-grant-clause-bytes
returns-in_default-grant-clause-bytes g c honest bytes there was = c.grant.ensures.others.bytes bytes (c.bring_in.ensures.bytes honest bytes there (subst (λ (s : LanesState). HoldsBytes bytes s.frames) (sym c.self.view_is) was))

pub set_window-requires-clause-lane : goal.set_window-requires-clause-lane
set_window-requires-clause-lane g c =
    let can = can_send c.args.shape.now.block c.args.more c.args.self.now _ c.args.lane c.self.view_is c.requires.least c.requires.lane c.requires.some c.requires.goes_on c.requires.rest in
    advanced_low c.self.inside.queues c.advance.new.self c.args.lane c.args.more can.low (heard_is c.self.inside.queues c.advance.new.self c.args.lane c.args.more can.some c.advance.ensures)

pub set_window-requires-clause-head : goal.set_window-requires-clause-head
set_window-requires-clause-head g c =
    let can = can_send c.args.shape.now.block c.args.more c.args.self.now _ c.args.lane c.self.view_is c.requires.least c.requires.lane c.requires.some c.requires.goes_on c.requires.rest in
    advanced_some c.self.inside.queues c.advance.new.self c.args.lane c.args.more can.low can.some (heard_is c.self.inside.queues c.advance.new.self c.args.lane c.args.more can.some c.advance.ensures)

pub set_window-requires-clause-within : goal.set_window-requires-clause-within
set_window-requires-clause-within g c d =
    let can = can_send c.args.shape.now.block c.args.more c.args.self.now _ c.args.lane c.self.view_is c.requires.least c.requires.lane c.requires.some c.requires.goes_on c.requires.rest in
    let w = next_window c.args.shape.now.block c.args.more (lane_of c.args.self.now.queues c.args.lane) in
    let long : c.len.result ≡ samples_in w = c.len.ensures ∙ c.in-Ok-grant.ensures.lease.len ∙ ap samples_in (c.deref-2.ensures.value ∙ c.in-Ok.ensures.window) in
    fits_in c.self.inside.queues c.advance.new.self c.args.lane c.args.more c.len.result d can.low can.some (heard_is c.self.inside.queues c.advance.new.self c.args.lane c.args.more can.some c.advance.ensures)
    (let within = can.window.within in omega (arith, long, within))

pub invariant_of-self-2 : goal.invariant_of-self-2
invariant_of-self-2 g c =
    let can = can_send c.args.shape.now.block c.args.more c.args.self.now _ c.args.lane c.self.view_is c.requires.least c.requires.lane c.requires.some c.requires.goes_on c.requires.rest in
    let w = next_window c.args.shape.now.block c.args.more (lane_of c.args.self.now.queues c.args.lane) in
    let lease = c.in-Ok-grant.ensures in
    let own : c.len.result ≡ samples_in c.deref-2.result.now = c.len.ensures ∙ lease.lease.len in
    let long : c.len.result ≡ samples_in w = own ∙ ap samples_in (c.deref-2.ensures.value ∙ c.in-Ok.ensures.window) in
    send_lanes c.self.inside.queues c.set_window.new.self c.self.inside.frames c.grant.new.self c.self.inside.taken.items c.args.shape.now.block c.deref.result.now c.args.lane c.from.result c.args.more c.len.result c.self.invariant can.low can.some (c.from.ensures ∙ c.lane.view_is)
    (let some = can.window.some in omega (arith, long, some)) can.goes
    (sent_is c.self.inside.queues c.advance.new.self c.set_window.new.self c.args.lane c.args.more c.len.result can.low can.some (heard_is c.self.inside.queues c.advance.new.self c.args.lane c.args.more can.some c.advance.ensures) c.set_window.ensures)
    (sent_to c.args.shape.now.block c.deref.result.now c.args.lane c.self.inside.frames c.bring_in.new.self c.grant.new.self c.bring_in.ensures.frames lease.others)
    (subst (λ (n : ℕ). IsOut n (stage_of c.grant.new.self.keeper c.args.lane)) (sym own) lease.stage) lease.hint.0 lease.hint.1

pub returns-clause-queues : goal.returns-clause-queues
returns-clause-queues g c =
    let can = can_send c.args.shape.now.block c.args.more c.args.self.now _ c.args.lane c.self.view_is c.requires.least c.requires.lane c.requires.some c.requires.goes_on c.requires.rest in
    let w = next_window c.args.shape.now.block c.args.more (lane_of c.args.self.now.queues c.args.lane) in
    let long : c.len.result ≡ samples_in w = c.len.ensures ∙ c.in-Ok-grant.ensures.lease.len ∙ ap samples_in (c.deref-2.ensures.value ∙ c.in-Ok.ensures.window) in
    sent_queues c.args.self.now _ c.set_window.new.self c.args.lane c.args.more c.len.result (samples_in w) c.self.view_is long
    (sent_is c.self.inside.queues c.advance.new.self c.set_window.new.self c.args.lane c.args.more c.len.result can.low can.some (heard_is c.self.inside.queues c.advance.new.self c.args.lane c.args.more can.some c.advance.ensures) c.set_window.ensures)

pub returns-clause-frames : goal.returns-clause-frames
returns-clause-frames g c =
    sent_to_seen c.args.shape.now.block (next_window c.args.shape.now.block c.args.more (lane_of c.args.self.now.queues c.args.lane)) c.deref.result.now c.args.lane c.args.self.now _ c.bring_in.new.self c.grant.new.self c.self.view_is (c.deref.ensures.value ∙ c.in-Ok.ensures.window) c.bring_in.ensures.frames c.grant.ensures.others

pub returns-clause-bytes : goal.returns-clause-bytes
returns-clause-bytes g c honest bytes there was = c.grant.ensures.others.bytes bytes (c.bring_in.ensures.bytes honest bytes there (subst (λ (s : LanesState). HoldsBytes bytes s.frames) (sym c.self.view_is) was))

pub returns-clause-samples : goal.returns-clause-samples
returns-clause-samples g c honest bytes there was =
    leased_samples bytes c.args.shape.now.block (next_window c.args.shape.now.block c.args.more (lane_of c.args.self.now.queues c.args.lane)) c.deref-2.result.now c.args.lane c.args.self.now _ c.bring_in.new.self c.in-Ok-grant.lease c.self.view_is (c.deref-2.ensures.value ∙ c.in-Ok.ensures.window) c.requires.block c.bring_in.ensures.frames.pool c.in-Ok-grant.ensures.lease
    (c.bring_in.ensures.bytes honest bytes there (subst (λ (s : LanesState). HoldsBytes bytes s.frames) (sym c.self.view_is) was))

pub returns-in_default-bring_in-clause-frames : goal.returns-in_default-bring_in-clause-frames
returns-in_default-bring_in-clause-frames g c =
    sent_to_seen c.args.shape.now.block (next_window c.args.shape.now.block c.args.more (lane_of c.args.self.now.queues c.args.lane)) c.deref.result.now c.args.lane c.args.self.now _ c.bring_in.new.self c.bring_in.new.self c.self.view_is (c.deref.ensures.value ∙ c.in-Ok.ensures.window) c.bring_in.ensures.frames (same_frames c.bring_in.new.self c.args.lane)

pub returns-clause-ready : goal.returns-clause-ready
returns-clause-ready g c =
    let w = c.deref.result.now in
    subst (λ (l : List Piece). AreReady c.args.shape.now.block c.grant.new.self.resident l (length l)) (c.deref.ensures.value ∙ c.in-Ok.ensures.window)
    (subst (λ (r : List (Option Block)). AreReady c.args.shape.now.block r w (length w)) (sym c.grant.ensures.others.resident)
    (are_ready c.args.shape.now.block c.bring_in.new.self.resident w _ (length w) c.in-Ok-bring_in.ensures.found))
