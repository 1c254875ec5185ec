use Rattle.std.proofs.Common.{◌∙◌, ap, sym, drop}
use Rattle.play_queue.specs.Queued.{items_of, lane_of}
use Rattle.play_queue.proofs.Lanewise.{lane_is, in_lanes, written, queue_at, queue_set, still_queue, jobs_behind}
use Rattle.play_queue.proofs.lanes.Queues.pop.Goals as goal

pub invariant_of-self : goal.invariant_of-self
invariant_of-self c =
    let xs = c.self.inside.lanes.items in
    let i = c.from.result in
    let same = c.from.ensures ∙ c.lane.view_is in
    let b = c.index_mut-queue.result.now in
    let within = in_lanes xs i c.args.self.now c.args.lane same c.self.view_is c.requires in
    let lane = lane_is xs i b c.args.self.now c.args.lane same c.self.view_is c.requires c.index_mut-queue.ensures.value in
    let q = queue_at xs i b c.self.invariant within c.index_mut-queue.ensures.value in
    queue_set xs i c.pop_front.new.self c.self.invariant (still_queue b c.pop_front.new.self (drop 1 b.items) q c.pop_front.ensures.items (jobs_behind b.items q.jobs))

pub returns-clause-after : goal.returns-clause-after
returns-clause-after c =
    let xs = c.self.inside.lanes.items in
    let i = c.from.result in
    let same = c.from.ensures ∙ c.lane.view_is in
    let b = c.index_mut-queue.result.now in
    let within = in_lanes xs i c.args.self.now c.args.lane same c.self.view_is c.requires in
    let lane = lane_is xs i b c.args.self.now c.args.lane same c.self.view_is c.requires c.index_mut-queue.ensures.value in
    let q = queue_at xs i b c.self.invariant within c.index_mut-queue.ensures.value in
    written xs i c.pop_front.new.self (drop 1 (lane_of c.args.self.now c.args.lane)) c.args.self.now c.args.lane same c.self.view_is (ap items_of c.pop_front.ensures.items ∙ ap (λ l. drop 1 l) (sym lane))
