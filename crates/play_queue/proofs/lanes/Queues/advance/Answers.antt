use Rattle.std.proofs.Common.{◌≤◌, ◌<◌, ◌∙◌, ap, sym, subst, length, get_or, set, List}
use Rattle.play_queue.specs.declared.jobs.Job.{Job}
use Rattle.play_queue.specs.Queued.{items_of, lane_of, heard_more}
use Rattle.play_queue.proofs.Lanewise.{lane_is, in_lanes, written, queue_at, queue_set, still_queue, heard_jobs, heard_fits, a_job}
use Rattle.play_queue.proofs.lanes.Queues.advance.Goals as goal

pub hear_more-requires-clause-fits : goal.hear_more-requires-clause-fits
hear_more-requires-clause-fits c d =
    let xs = c.self.inside.lanes.items in
    let i = c.from.result in
    let same = c.from.ensures ∙ c.lane.view_is in
    let b = c.index_mut-queue.result.now in
    let within = in_lanes xs i c.args.self.now c.args.lane same c.self.view_is c.requires.lane in
    let lane = lane_is xs i b c.args.self.now c.args.lane same c.self.view_is c.requires.lane c.index_mut-queue.ensures.value in
    let q = queue_at xs i b c.self.invariant within c.index_mut-queue.ensures.value in
    let some : 0 < length b.items = subst (λ (js : List Job). 0 < length js) lane c.requires.head in
    heard_fits b.items c.args.more d q.jobs some (subst (λ (js : List Job). c.args.more ≤ (get_or js 0 d).window) lane (c.requires.window d))

pub invariant_of-self : goal.invariant_of-self
invariant_of-self c =
    let xs = c.self.inside.lanes.items in
    let i = c.from.result in
    let same = c.from.ensures ∙ c.lane.view_is in
    let b = c.index_mut-queue.result.now in
    let within = in_lanes xs i c.args.self.now c.args.lane same c.self.view_is c.requires.lane in
    let lane = lane_is xs i b c.args.self.now c.args.lane same c.self.view_is c.requires.lane c.index_mut-queue.ensures.value in
    let q = queue_at xs i b c.self.invariant within c.index_mut-queue.ensures.value in
    let some : 0 < length b.items = subst (λ (js : List Job). 0 < length js) lane c.requires.head in
    let d = a_job b.items some in
    queue_set xs i c.hear_more.new.queue c.self.invariant
    (still_queue b c.hear_more.new.queue (set b.items 0 (heard_more c.args.more (get_or b.items 0 d))) q (c.hear_more.ensures d)
    (heard_jobs b.items c.args.more d q.jobs some (subst (λ (js : List Job). c.args.more ≤ (get_or js 0 d).window) lane (c.requires.window d))))

pub returns : goal.returns
returns c d =
    let xs = c.self.inside.lanes.items in
    let i = c.from.result in
    let same = c.from.ensures ∙ c.lane.view_is in
    let b = c.index_mut-queue.result.now in
    let within = in_lanes xs i c.args.self.now c.args.lane same c.self.view_is c.requires.lane in
    let lane = lane_is xs i b c.args.self.now c.args.lane same c.self.view_is c.requires.lane c.index_mut-queue.ensures.value in
    let q = queue_at xs i b c.self.invariant within c.index_mut-queue.ensures.value in
    written xs i c.hear_more.new.queue (set (lane_of c.args.self.now c.args.lane) 0 (heard_more c.args.more (get_or (lane_of c.args.self.now c.args.lane) 0 d))) c.args.self.now c.args.lane same c.self.view_is
    (ap items_of (c.hear_more.ensures d) ∙ ap (λ l. set l 0 (heard_more c.args.more (get_or l 0 d))) (sym lane))
