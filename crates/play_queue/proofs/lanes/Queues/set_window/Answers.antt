use Rattle.std.proofs.Common.{◌+◌, ◌≤◌, ◌<◌, ◌∙◌, ap, sym, subst, length, get_or, set, List}
use Rattle.voice_units.specs.Spots.{samples_in}
use Rattle.play_queue.specs.declared.jobs.Job.{Job}
use Rattle.play_queue.specs.Queued.{items_of, lane_of, with_window}
use Rattle.play_queue.proofs.Lanewise.{lane_is, in_lanes, written, queue_at, queue_set, still_queue, windowed_jobs, a_job}
use Rattle.play_queue.proofs.lanes.Queues.set_window.Goals as goal

pub invariant_of-self : goal.invariant_of-self
invariant_of-self c =
    let xs = c.self.inside.lanes.items in
    let i = c.from.result in
    let same = c.from.ensures ∙ c.lane.view_is in
    let b = c.index_mut-queue.result.now in
    let within = in_lanes xs i c.args.self.now c.args.lane same c.self.view_is c.requires.lane in
    let lane = lane_is xs i b c.args.self.now c.args.lane same c.self.view_is c.requires.lane c.index_mut-queue.ensures.value in
    let q = queue_at xs i b c.self.invariant within c.index_mut-queue.ensures.value in
    let some : 0 < length b.items = subst (λ (js : List Job). 0 < length js) lane c.requires.head in
    let d = a_job b.items some in
    queue_set xs i c.put_out.new.queue c.self.invariant
    (still_queue b c.put_out.new.queue (set b.items 0 (with_window c.args.n (get_or b.items 0 d))) q (c.put_out.ensures d)
    (windowed_jobs b.items c.args.n d q.jobs some (subst (λ (js : List Job). (get_or js 0 d).heard + c.args.n ≤ samples_in (get_or js 0 d).passage) lane (c.requires.within d))))

pub returns : goal.returns
returns c d =
    let xs = c.self.inside.lanes.items in
    let i = c.from.result in
    let same = c.from.ensures ∙ c.lane.view_is in
    let b = c.index_mut-queue.result.now in
    let within = in_lanes xs i c.args.self.now c.args.lane same c.self.view_is c.requires.lane in
    let lane = lane_is xs i b c.args.self.now c.args.lane same c.self.view_is c.requires.lane c.index_mut-queue.ensures.value in
    let q = queue_at xs i b c.self.invariant within c.index_mut-queue.ensures.value in
    written xs i c.put_out.new.queue (set (lane_of c.args.self.now c.args.lane) 0 (with_window c.args.n (get_or (lane_of c.args.self.now c.args.lane) 0 d))) c.args.self.now c.args.lane same c.self.view_is
    (ap items_of (c.put_out.ensures d) ∙ ap (λ l. set l 0 (with_window c.args.n (get_or l 0 d))) (sym lane))
