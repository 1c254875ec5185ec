use Rattle.std.proofs.Common.{rules, ◌≡◌, ◌*◌, ℕ, None, length, replicate, ap, ◌∙◌}
use Rattle.frame_pool.specs.declared.views.KeeperView.{KeeperView}
use Rattle.frame_pool.specs.Rule.{idle_lane}
use Rattle.frame_pool.specs.Steps.{lane_at}
use Rattle.playing.proofs.Blank.{frames_new, alike}
use Rattle.playing.proofs.frames.Frames.new.Goals as goal

pub invariant_of-result : goal.invariant_of-result
invariant_of-result c =
    let none : c.in_ok-resident.resident.items ≡ replicate (4 * c.args.lanes) None = search rules in
    let long : length c.in_ok-room.room.items ≡ c.args.block = search rules in
    frames_new c.in_ok-_pool.keeper c.args.lanes c.args.block _ _ _ c.requires.lanes c.requires.block c.in_ok-_pool.ensures.sizes c.in_ok-_pool.ensures.frames
    (λ l. ap (λ (k : KeeperView). lane_at k l) c.in_ok-_pool.ensures.free ∙ alike c.args.lanes l idle_lane)
    none c.in_ok-readers.ensures long
