use Rattle.std.proofs.Common.{◌++◌, ◌∷◌, ◌∙◌, [], ap, sym}
use Rattle.play_queue.specs.Queued.{items_of, lane_of}
use Rattle.play_queue.proofs.Lanewise.{lane_is, in_lanes, written, queue_at, queue_set, eight_of, on_ok, pushed}
use Rattle.play_queue.proofs.lanes.Queues.push.Goals as goal

pub invariant_of-self : goal.invariant_of-self
invariant_of-self c =
    let xs = c.self.inside.lanes.items in
    let i = c.from.result in
    let same = c.from.ensures ∙ c.lane.view_is in
    let b = c.index_mut-queue.result.now in
    let within = in_lanes xs i c.args.self.now c.args.lane same c.self.view_is c.requires.lane in
    let lane = lane_is xs i b c.args.self.now c.args.lane same c.self.view_is c.requires.lane c.index_mut-queue.ensures.value in
    let q = queue_at xs i b c.self.invariant within c.index_mut-queue.ensures.value in
    queue_set xs i c.try_push_back.new.self c.self.invariant
    (pushed c.try_push_back.result b c.try_push_back.new.self c.args.job q (record { within = c.requires.within; fits = c.length-length.ensures.rope.total }) c.try_push_back.ensures.ok c.try_push_back.ensures.err)

pub returns-clause-variant : goal.returns-clause-variant
returns-clause-variant c =
    let xs = c.self.inside.lanes.items in
    let i = c.from.result in
    let same = c.from.ensures ∙ c.lane.view_is in
    let b = c.index_mut-queue.result.now in
    let within = in_lanes xs i c.args.self.now c.args.lane same c.self.view_is c.requires.lane in
    let lane = lane_is xs i b c.args.self.now c.args.lane same c.self.view_is c.requires.lane c.index_mut-queue.ensures.value in
    let q = queue_at xs i b c.self.invariant within c.index_mut-queue.ensures.value in
    eight_of b (lane_of c.args.self.now c.args.lane) lane q.eight c.try_push_back.ensures.variant

pub returns-clause-ok : goal.returns-clause-ok
returns-clause-ok c =
    let xs = c.self.inside.lanes.items in
    let i = c.from.result in
    let same = c.from.ensures ∙ c.lane.view_is in
    let b = c.index_mut-queue.result.now in
    let within = in_lanes xs i c.args.self.now c.args.lane same c.self.view_is c.requires.lane in
    let lane = lane_is xs i b c.args.self.now c.args.lane same c.self.view_is c.requires.lane c.index_mut-queue.ensures.value in
    let q = queue_at xs i b c.self.invariant within c.index_mut-queue.ensures.value in
    on_ok c.try_push_back.result
    (λ e. written xs i c.try_push_back.new.self (lane_of c.args.self.now c.args.lane ++ c.args.job ∷ []) c.args.self.now c.args.lane same c.self.view_is (ap items_of e ∙ ap (λ l. l ++ c.args.job ∷ []) (sym lane)))
    c.try_push_back.ensures.ok
