use Rattle.std.proofs.Common.{◌<◌, length, sym, subst, refl}
use Rattle.play_queue.specs.Queued.{lane_of}
use Rattle.playing.specs.Lanes.{LanesState, new_job}
use Rattle.playing.proofs.Laning.{push_lanes, of_ok}
use Rattle.playing.proofs.lanes.Lanes.push.Goals as goal

pub invariant_of-self : goal.invariant_of-self
invariant_of-self c =
    let s = c.self.inside in
    push_lanes s.queues c.push-pushed.new.self s.frames s.taken.items c.args.lane (new_job c.args.id c.args.passage) c.self.invariant
    (subst (λ (s : LanesState). c.args.lane < length s.queues) (sym c.self.view_is) c.requires.lane)
    (of_ok c.push-pushed.result (c.push-pushed.ensures.variant.1 (subst (λ (s : LanesState). length (lane_of s.queues c.args.lane) < 8) (sym c.self.view_is) c.requires.room)) c.push-pushed.ensures.ok)
    (record { heard = refl; window = refl })
