use Rattle.std.proofs.Common.{◌<◌, ap, arith}
use Rattle.std.specs.Arc.{arc_value}
use Rattle.frame_pool.specs.Steps.{keeper_view, lane_at, hinted_lane}
use Rattle.frame_pool.specs.Pool.{Identity, KeeperState}
use Rattle.frame_pool.proofs.Keepers.{lane_state_is, parts_at}
use Rattle.frame_pool.proofs.keeper.Keeper.hint.Goals as goal

pub invariant_of-self : goal.invariant_of-self
invariant_of-self c =
    let i = c.self.invariant.0 in
    let w : Identity = arc_value c.self.inside.pool in
    let k = keeper_view c.self.inside.seat.me.0 in
    let low : c.lane.inside.0 < w.sizes.lanes = omega (arith, ap (λ (x : KeeperState). x.pool.sizes.lanes) c.self.view_is, c.requires.lane, c.lane.view_is) in
    let e = c.store_hint.ensures in (
      lane_state_is w c.self.inside.seat c.store_hint.new.seat i e.seat.0 e.seat.1 k.latest c.lane.inside.0 (hinted_lane (lane_at k c.lane.inside.0) c.if-on.new) e.view
          (parts_at w c.self.inside.seat i c.lane.inside.0 low),
      c.self.invariant.1,
    )
