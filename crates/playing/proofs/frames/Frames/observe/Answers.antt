use Rattle.std.proofs.Common.{◌≡◌, ◌∙◌, ◌<◌, sym, ap, subst, arith, length}
use Rattle.std.specs.Prelude.{if◌then◌else◌, List, ◌≤◌}
use Rattle.frame_pool.specs.declared.views.Part.{Part}
use Rattle.frame_pool.specs.Steps.{parts_of, ended}
use Rattle.frame_pool.specs.Pool.{lanes_of, stage_of}
use Rattle.playing.specs.Frames.{FramesState}
use Rattle.playing.proofs.Kept.{frames_lane, ended_parts, ended_free}
use Rattle.playing.proofs.frames.Frames.observe.Goals as goal

pub invariant_of-self : goal.invariant_of-self
invariant_of-self c =
    let k = c.self.inside.keeper in
    let over : stage_of c.observe-over.new.self c.args.lane ≡ ended (stage_of k c.args.lane) = c.observe-over.ensures.stage ∙ ap (λ b. if b then ended (stage_of k c.args.lane) else stage_of k c.args.lane) c.if-over.true in
    frames_lane k c.observe-over.new.self c.self.inside.resident.items c.self.inside.readers.items _ c.args.lane c.from.result c.clear.new.self.items c.self.invariant c.observe-over.ensures.others
    (c.from.ensures ∙ c.lane.view_is)
    (subst (λ (s : FramesState). c.args.lane < lanes_of s.keeper) (sym c.self.view_is) c.requires.lane)
    (ap parts_of over ∙ ended_parts (stage_of k c.args.lane) (c.self.invariant.unreserved c.args.lane) ∙ sym c.clear.ensures.items)
    (subst (λ (ps : List Part). length ps ≤ 4) (sym c.clear.ensures.items) (omega arith))
    (λ qs e. ended_free (stage_of k c.args.lane) (c.self.invariant.unreserved c.args.lane) qs (sym over ∙ e))
