use Rattle.std.specs.Arc.{arc_value}
use Rattle.frame_pool.specs.declared.views.KeeperView.{KeeperView}
use Rattle.frame_pool.specs.declared.views.LeaseView.{LeaseView}
use Rattle.frame_pool.specs.Steps.{keeper_view, lease_view}
use Rattle.frame_pool.specs.Pool.{Identity, KeeperIs}
use Rattle.frame_pool.proofs.Keepers.{lane_state_is}
use Rattle.frame_pool.proofs.keeper.Keeper.take_back.Goals as goal

pub invariant_of-self : goal.invariant_of-self
invariant_of-self c =
    let w : Identity = arc_value c.self.inside.pool in
    let k : KeeperView = keeper_view c.self.inside.seat.me.0 in
    let h : LeaseView = lease_view c.in-Some.seat.me.0 in
    let j = c.join.ensures in
    let f = c.free_lane.ensures in
    let joined : KeeperIs w c.join.new.seat = lane_state_is w c.self.inside.seat c.join.new.seat c.self.invariant.0 j.seat.0 j.seat.1 k.latest h.lane _ j.view tt in
    (lane_state_is w c.join.new.seat c.free_lane.new.seat joined f.seat.0 f.seat.1 _ _ _ f.view tt, c.self.invariant.1)
