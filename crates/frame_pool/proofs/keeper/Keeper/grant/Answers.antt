use Rattle.std.proofs.Common.{◌≡◌, ◌<◌, ◌≤◌, ◌*◌, ◌∙◌, ℕ, arith, ap, sym, subst, length, List, true}
use Rattle.std.specs.Prelude.{All}
use Rattle.std.specs.Arc.{arc_value}
use Rattle.std.specs.List.{flat_map}
use Rattle.std.proofs.Math.Nat.{mul-le-mul_right}
use Rattle.frame_pool.specs.declared.views.Part.{Part}
use Rattle.frame_pool.specs.declared.views.KeeperView.{KeeperView}
use Rattle.frame_pool.specs.Words.{total}
use Rattle.frame_pool.specs.Steps.{keeper_view, lane_at}
use Rattle.frame_pool.specs.Pool.{Identity, KeeperState, IsSized, AreParts, IsWithin, LeaseIs, stretch_in}
use Rattle.frame_pool.proofs.Leases.{holding}
use Rattle.frame_pool.proofs.Granting.{total_low, grants, leases, lease_is, granted_lane}
use Rattle.frame_pool.proofs.Keepers.{lane_state_is}
use Rattle.frame_pool.proofs.Copied.{within, length_stretches}
use Rattle.frame_pool.proofs.keeper.Keeper.grant.Goals as goal

pub total_len-len-requires : goal.total_len-len-requires
total_len-len-requires c =
    let w : Identity = arc_value c.self.inside.pool in
    let same : c.sizes-sizes.result ≡ w.sizes = c.sizes-sizes.ensures.value ∙ ap (λ (x : Identity). x.sizes) c.deref.ensures in
    let sized : IsSized w.sizes = subst IsSized same c.sizes-sizes.ensures.sized in
    let parts : AreParts w.sizes c.args.parts.now = subst (λ (x : KeeperState). AreParts x.pool.sizes c.args.parts.now) (sym c.self.view_is) c.requires.parts in
    let few : length c.args.parts.now * w.sizes.block ≤ 4 * w.sizes.block = mul-le-mul_right w.sizes.block c.requires.count.1 in
    omega (arith, total_low w.sizes c.args.parts.now parts, few, sized.small_block)

pub copy_parts-requires : goal.copy_parts-requires
copy_parts-requires c =
    let w : Identity = arc_value c.self.inside.pool in
    let ps : List Part = c.args.parts.now in
    let parts : AreParts w.sizes ps = subst (λ (x : KeeperState). AreParts x.pool.sizes ps) (sym c.self.view_is) c.requires.parts in
    subst (λ (frames : List (List ℕ)). All (IsWithin frames) ps) (sym c.deref-2.ensures.value) (within w.sizes c.self.inside.frames.items ps c.self.invariant.1 parts)

pub of-requires-2 : goal.of-requires-2
of-requires-2 c =
    let w : Identity = arc_value c.self.inside.pool in
    let k : KeeperView = keeper_view c.self.inside.seat.me.0 in
    let i = c.self.invariant.0 in
    let l : ℕ = c.lane.inside.0 in
    let ps : List Part = c.in_ok-items.items in
    let low : l < w.sizes.lanes = omega (arith, ap (λ (x : KeeperState). x.pool.sizes.lanes) c.self.view_is, c.requires.lane, c.lane.view_is) in
    let items : ps ≡ c.args.parts.now = c.in_ok-items.ensures in
    let parts : AreParts w.sizes c.args.parts.now = subst (λ (x : KeeperState). AreParts x.pool.sizes c.args.parts.now) (sym c.self.view_is) c.requires.parts in
    let long : length c.in_ok-samples.samples.items ≡ total ps =
    ap length (c.in_ok-samples.ensures ∙ ap (λ (frames : List (List ℕ)). flat_map (stretch_in frames) c.args.parts.now) c.deref-2.ensures.value)
    ∙ length_stretches w.sizes c.self.inside.frames.items c.args.parts.now c.self.invariant.1 parts
    ∙ ap total (sym items) in
    let h = c.store_hint.ensures in
    let r = c.reserve_lane.ensures in
    let o = c.hand_out-seat.ensures in
    let me = o.lease ∙ ap holding (leases k l ps c.store_hint.new.seat.me c.reserve_lane.new.seat.me (omega (arith, low, i.counted)) h.view r.view) in
    let table = o.seat.2 ∙ r.seat.0 ∙ h.seat.0 ∙ i.pool in
    subst (λ (y : Identity × ℕ × ℕ). LeaseIs y.0 y.2 y.1 true c.in_ok-samples.samples.items c.hand_out-seat.result)
    (λ j. (sym c.in_ok-pool.ensures j, sym (c.total_len-len.ensures ∙ ap total (sym items)) j, c.lane.view_is j))
    (lease_is w k l ps c.in_ok-samples.samples.items c.hand_out-seat.result i.seat.sizes table me low long)

pub invariant_of-self : goal.invariant_of-self
invariant_of-self c =
    let w : Identity = arc_value c.self.inside.pool in
    let k : KeeperView = keeper_view c.self.inside.seat.me.0 in
    let i = c.self.invariant.0 in
    let l : ℕ = c.lane.inside.0 in
    let ps : List Part = c.in_ok-items.items in
    let low : l < w.sizes.lanes = omega (arith, ap (λ (x : KeeperState). x.pool.sizes.lanes) c.self.view_is, c.requires.lane, c.lane.view_is) in
    let items : ps ≡ c.args.parts.now = c.in_ok-items.ensures in
    let parts : AreParts w.sizes ps = subst (λ (y : KeeperState × List Part). AreParts y.0.pool.sizes y.1) (λ j. (sym c.self.view_is j, sym items j)) c.requires.parts in
    let h = c.store_hint.ensures in
    let r = c.reserve_lane.ensures in
    let o = c.hand_out-seat.ensures in (
      lane_state_is w c.self.inside.seat c.hand_out-seat.new.seat i (o.seat.0 ∙ r.seat.0 ∙ h.seat.0) (o.seat.1 ∙ r.seat.1 ∙ h.seat.1) l l (granted_lane (lane_at k l) ps)
          (grants k l ps c.store_hint.new.seat.me c.reserve_lane.new.seat.me (omega (arith, low, i.counted)) h.view r.view c.hand_out-seat.new.seat.me o.view) parts,
      c.self.invariant.1,
    )
