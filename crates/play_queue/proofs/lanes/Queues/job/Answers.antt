use Rattle.std.proofs.Common.{◌∙◌}
use Rattle.play_queue.proofs.Lanewise.{in_lanes, queue_at, some_job}
use Rattle.play_queue.proofs.lanes.Queues.job.Goals as goal

pub returns-clause-within : goal.returns-clause-within
returns-clause-within c =
    let xs = c.self.inside.lanes.items in
    let i = c.from.result in
    let same = c.from.ensures ∙ c.lane.view_is in
    let q = queue_at xs i c.index.result.now c.self.invariant (in_lanes xs i c.args.self.now c.args.lane same c.self.view_is c.requires) c.index.ensures in
    some_job c.get.result c.index.result.now.items c.args.k q.jobs c.get.ensures
