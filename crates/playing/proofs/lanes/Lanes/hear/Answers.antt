use Rattle.std.proofs.Common.{◌≡◌, ◌∙◌, ◌<◌, length, sym, ap, subst}
use Rattle.frame_pool.specs.Pool.{stage_of}
use Rattle.frame_pool.specs.declared.views.Stage.TheVariants.{Free}
use Rattle.play_queue.specs.Queued.{lane_of}
use Rattle.playing.specs.Lanes.{LanesState, home_with}
use Rattle.std.specs.Prelude.{slice_set}
use Rattle.playing.proofs.Laning.{hear_lanes, heard_is}
use Rattle.playing.proofs.lanes.Lanes.hear.Goals as goal

pub invariant_of-self : goal.invariant_of-self
invariant_of-self c =
    let s = c.self.inside in
    hear_lanes s.queues c.advance.new.self s.frames s.taken.items c.args.lane c.from.result c.args.more c.self.invariant
    (subst (λ (s : LanesState). c.args.lane < length s.queues) (sym c.self.view_is) c.requires.lane)
    (heard_is s.queues c.advance.new.self c.args.lane c.args.more (subst (λ (s : LanesState). 0 < length (lane_of s.queues c.args.lane)) (sym c.self.view_is) c.requires.some) c.advance.ensures)
    (c.from.ensures ∙ c.lane.view_is)
    (subst (λ (s : LanesState). stage_of s.frames.keeper c.args.lane ≡ Free) (sym c.self.view_is) c.requires.back)

pub returns-clause-queues : goal.returns-clause-queues
returns-clause-queues c =
    let s = c.self.inside in
    heard_is s.queues c.advance.new.self c.args.lane c.args.more (subst (λ (s : LanesState). 0 < length (lane_of s.queues c.args.lane)) (sym c.self.view_is) c.requires.some) c.advance.ensures
    ∙ ap (λ (s : LanesState). slice_set s.queues c.args.lane (home_with c.args.more (lane_of s.queues c.args.lane))) c.self.view_is
