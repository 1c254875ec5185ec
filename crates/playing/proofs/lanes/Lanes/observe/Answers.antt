use Rattle.playing.proofs.Laning.{looked_lanes}
use Rattle.playing.proofs.lanes.Lanes.observe.Goals as goal

pub invariant_of-self : goal.invariant_of-self
invariant_of-self c = looked_lanes c.self.inside.queues c.self.inside.frames c.observe.new.self c.self.inside.taken.items c.args.lane c.observe.result c.self.invariant c.observe.ensures.others c.observe.ensures.stage c.observe.ensures.hint.0 c.observe.ensures.hint.1
