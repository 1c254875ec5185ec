use Rattle.std.proofs.Common.{◌∙◌, sym}
use Rattle.playing.proofs.Laning.{back_lanes}
use Rattle.playing.proofs.lanes.Lanes.bring_back.Goals as goal

pub invariant_of-self : goal.invariant_of-self
invariant_of-self c =
    let s = c.self.inside in
    let t = c.take_back.ensures in
    back_lanes s.queues s.frames c.take_back.new.self s.taken.items c.args.lease.now.lane c.from-k.result c.args.lease.now.len c.self.invariant t.low
    (c.from-k.ensures ∙ c.lane.view_is ∙ sym c.requires.on)
    t.others t.out t.stage t.hint.0 t.hint.1
