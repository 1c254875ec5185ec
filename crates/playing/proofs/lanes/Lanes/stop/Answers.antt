use Rattle.std.proofs.Common.{◌<◌, length, sym, subst}
use Rattle.playing.specs.Lanes.{LanesState}
use Rattle.playing.proofs.Laning.{stop_lanes}
use Rattle.playing.proofs.lanes.Lanes.stop.Goals as goal

pub invariant_of-self : goal.invariant_of-self
invariant_of-self c =
    let s = c.self.inside in
    stop_lanes s.queues c.stop.new.self s.frames c.hint.new.self s.taken.items c.args.lane c.self.invariant
    (subst (λ (s : LanesState). c.args.lane < length s.queues) (sym c.self.view_is) c.requires.lane)
    c.stop.ensures.after c.hint.ensures.others c.hint.ensures.stage c.hint.ensures.hint c.hint.ensures.mark
