use Rattle.playing.proofs.Laning.{new_lanes}
use Rattle.playing.proofs.lanes.Lanes.new.Goals as goal

pub invariant_of-result : goal.invariant_of-result
invariant_of-result c = new_lanes c.args.lanes c.in_ok-queues.queues c.in_ok-frames.frames c.in_ok-taken.taken.items c.in_ok-queues.ensures c.in_ok-taken.ensures c.in_ok-frames.ensures.sizes.0 c.in_ok-frames.ensures.free
