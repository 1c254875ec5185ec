use Rattle.std.proofs.Common.{◌∙◌, ap, sym, map}
use Rattle.play_queue.specs.Queued.{items_of, lane_of, stopped_job}
use Rattle.play_queue.proofs.Lanewise.{lane_is, in_lanes, written, queue_at, queue_set, still_queue, all_stopped}
use Rattle.play_queue.proofs.lanes.Queues.stop.Goals as goal

pub stop_all-requires : goal.stop_all-requires
stop_all-requires c =
    let xs = c.self.inside.lanes.items in
    let i = c.from.result in
    let same = c.from.ensures ∙ c.lane.view_is in
    let b = c.index_mut-queue.result.now in
    let within = in_lanes xs i c.args.self.now c.args.lane same c.self.view_is c.requires in
    let lane = lane_is xs i b c.args.self.now c.args.lane same c.self.view_is c.requires c.index_mut-queue.ensures.value in
    let q = queue_at xs i b c.self.invariant within c.index_mut-queue.ensures.value in
    q.eight

pub invariant_of-self : goal.invariant_of-self
invariant_of-self c =
    let xs = c.self.inside.lanes.items in
    let i = c.from.result in
    let same = c.from.ensures ∙ c.lane.view_is in
    let b = c.index_mut-queue.result.now in
    let within = in_lanes xs i c.args.self.now c.args.lane same c.self.view_is c.requires in
    let lane = lane_is xs i b c.args.self.now c.args.lane same c.self.view_is c.requires c.index_mut-queue.ensures.value in
    let q = queue_at xs i b c.self.invariant within c.index_mut-queue.ensures.value in
    queue_set xs i c.stop_all.new.queue c.self.invariant (still_queue b c.stop_all.new.queue (map stopped_job b.items) q c.stop_all.ensures.jobs (all_stopped b.items q.jobs))

pub returns-clause-after : goal.returns-clause-after
returns-clause-after c =
    let xs = c.self.inside.lanes.items in
    let i = c.from.result in
    let same = c.from.ensures ∙ c.lane.view_is in
    let b = c.index_mut-queue.result.now in
    let within = in_lanes xs i c.args.self.now c.args.lane same c.self.view_is c.requires in
    let lane = lane_is xs i b c.args.self.now c.args.lane same c.self.view_is c.requires c.index_mut-queue.ensures.value in
    let q = queue_at xs i b c.self.invariant within c.index_mut-queue.ensures.value in
    written xs i c.stop_all.new.queue (map stopped_job (lane_of c.args.self.now c.args.lane)) c.args.self.now c.args.lane same c.self.view_is
    (ap items_of c.stop_all.ensures.jobs ∙ ap (map stopped_job) (sym lane))
