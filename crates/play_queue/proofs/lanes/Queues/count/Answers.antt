use Rattle.std.proofs.Common.{◌∙◌, arith}
use Rattle.play_queue.specs.Queued.{IsQueue}
use Rattle.play_queue.proofs.Lanewise.{in_lanes, queue_at}
use Rattle.play_queue.proofs.lanes.Queues.count.Goals as goal

queue : (c : goal.After-len) → IsQueue c.index.result.now
queue c =
    let xs = c.self.inside.lanes.items in
    let i = c.from.result in
    let same = c.from.ensures ∙ c.lane.view_is in
    queue_at xs i c.index.result.now c.self.invariant (in_lanes xs i c.args.self.now c.args.lane same c.self.view_is c.requires) c.index.ensures

pub overflow_cast-result : goal.overflow_cast-result
overflow_cast-result c = let q = queue c in omega (arith, q.eight, c.len.ensures.within)

pub returns-clause-most : goal.returns-clause-most
returns-clause-most c = let q = queue c in omega (arith, q.eight, c.len.ensures.within)
