-- The keeper's invariant after a step.
use Rattle.std.proofs.Common.{◌≡◌, ◌≢◌, ℕ, ◌<◌, [], length, true, false, refl, sym, ap, ◌∙◌, subst, ⊎_elim, arith, length-set}
use Rattle.std.specs.Prelude.{if◌then◌else◌, ◌==◌}
use mathlib.Core.Option.{some}
use lib.ListN.{get_elem?}
use Rattle.std.proofs.lemmas.List.{get_or-set_other}
use Rattle.std.proofs.lemmas.Grind.{get_or-set_at}
use Rattle.atomic_table.specs.declared.shared.Seat.{Seat}
use Rattle.atomic_table.proofs.Lists.{at_set}
use Rattle.frame_pool.specs.declared.views.Parts.{Parts}
use Rattle.frame_pool.specs.declared.views.Sizes.{Sizes}
use Rattle.frame_pool.specs.declared.views.Stage.{Stage}
use Rattle.frame_pool.specs.declared.views.Stage.TheVariants.{Free, Reserved, Handed, Ended}
use Rattle.frame_pool.specs.declared.views.LaneState.{LaneState}
use Rattle.frame_pool.specs.declared.views.KeeperView.{KeeperView}
use Rattle.frame_pool.specs.declared.views.View.{View}
use Rattle.frame_pool.specs.declared.views.View.TheVariants.{Keeper}
use Rattle.std.proofs.lemmas.List.{length-replicate}
use Rattle.frame_pool.specs.Rule.{idle_lane, opened}
use Rattle.frame_pool.proofs.Opens.{same_there}
use Rattle.frame_pool.specs.Steps.{Seated, lane_at, parts_of, ended, looked_lane, keeper_view}
use Rattle.frame_pool.specs.Pool.{Identity, KeeperState, KeeperIs, AreParts, ChangesLane}
use Rattle.frame_pool.proofs.Moves.{keeping, there_get}
use Rattle.frame_pool.proofs.LaneStates.{changing}

pub keeper_is : (w : Identity) (s s' : Seat Parts View) → KeeperIs w s → s'.table_id ≡ s.table_id → s'.id ≡ s.id → (k : KeeperView) → s'.me ≡ keeping k
    → k.sizes ≡ (keeper_view s.me.0).sizes → length k.lane_states ≡ length (keeper_view s.me.0).lane_states
    → ((l : ℕ) (d : LaneState) → get_elem? k.lane_states l ≡ some d → AreParts w.sizes (parts_of d.stage))
    → KeeperIs w s'
keeper_is w s s' i table id k me sizes lane_states inside =
    let same : keeper_view s'.me.0 ≡ k = ap (λ (x : Seated). keeper_view x.0) me in
    record {
      pool = table ∙ i.pool;
      seat = record {
        first = id ∙ i.seat.first;
        me = me ∙ (λ j. (Keeper (sym same j), []));
        sizes = ap (λ (x : KeeperView). x.sizes) same ∙ sizes ∙ i.seat.sizes;
      };
      counted = ap (λ (x : KeeperView). length x.lane_states) same ∙ lane_states ∙ i.counted;
      inside = subst (λ (x : KeeperView). (l : ℕ) (d : LaneState) → get_elem? x.lane_states l ≡ some d → AreParts w.sizes (parts_of d.stage)) (sym same) inside;
    }

-- where one lane's state changed
pub lane_state_is : (w : Identity) (s s' : Seat Parts View) → KeeperIs w s → s'.table_id ≡ s.table_id → s'.id ≡ s.id → (t l : ℕ) (d : LaneState) → s'.me ≡ keeping (changing (keeper_view s.me.0) t l d)
    → AreParts w.sizes (parts_of d.stage)
    → KeeperIs w s'
lane_state_is w s s' i table id t l d me parts =
    let k : KeeperView = keeper_view s.me.0 in
    keeper_is w s s' i table id (changing k t l d) me refl (length-set k.lane_states l d)
    (λ j e is. ⊎_elim (λ (u : (j ≡ l) × (d ≡ e)). subst (λ (x : LaneState). AreParts w.sizes (parts_of x.stage)) u.1 parts) (λ (u : (j ≢ l) × (get_elem? k.lane_states j ≡ some e)). i.inside j e u.1) (at_set k.lane_states l j d e is))

-- the parts of a lane lie inside its frames
pub parts_at : (w : Identity) (s : Seat Parts View) → KeeperIs w s → (l : ℕ) → l < w.sizes.lanes → AreParts w.sizes (parts_of (lane_at (keeper_view s.me.0) l).stage)
parts_at w s i l low = i.inside l (lane_at (keeper_view s.me.0) l) (there_get (keeper_view s.me.0).lane_states l idle_lane (omega (arith, i.counted)))

pub lane_there_now : (k k' : KeeperView) (t l : ℕ) (d : LaneState) → k' ≡ changing k t l d → l < length k.lane_states → lane_at k' l ≡ d
lane_there_now k k' t l d same low = ap (λ (x : KeeperView). lane_at x l) same ∙ get_or-set_at k.lane_states l l d idle_lane refl low

pub lane_changed : (old new : KeeperState) (t l : ℕ) (d : LaneState) → new.pool ≡ old.pool → new.frames ≡ old.frames → new.view ≡ changing old.view t l d → ChangesLane old new l
lane_changed old new t l d pool frames same = record {
  pool = pool;
  frames = frames;
  others = λ j ne. ap (λ (x : KeeperView). lane_at x j) same ∙ get_or-set_other old.view.lane_states l j d idle_lane ne;
}

-- what a look leaves of the parts
pub parts_looked : (z : Sizes) (d : LaneState) (n : ℕ) → AreParts z (parts_of d.stage) → AreParts z (parts_of (looked_lane d n).stage)
parts_looked z d n h = elim (n == 0) as (λ v. AreParts z (parts_of (if v then ended d.stage else d.stage))) [ true ↦ over d.stage h | false ↦ h ]
  where
    over : (st : Stage) → AreParts z (parts_of st) → AreParts z (parts_of (ended st))
    over Free h = h
    over (Reserved ps) h = h
    over (Handed ps) h = tt
    over (Ended n) h = h

-- the keeper of a new pool
pub keeper_new : (w : Identity) (s : Seat Parts View) → s.table_id ≡ w.id → s.id ≡ 0 → s.me ≡ keeping (opened w.sizes) → KeeperIs w s
keeper_new w s table id me =
    let same : keeper_view s.me.0 ≡ opened w.sizes = ap (λ (x : Seated). keeper_view x.0) me in
    record {
      pool = table;
      seat = record { first = id; me = me ∙ (λ j. (Keeper (sym same j), [])); sizes = ap (λ (x : KeeperView). x.sizes) same };
      counted = ap (λ (x : KeeperView). length x.lane_states) same ∙ length-replicate w.sizes.lanes idle_lane;
      inside = subst (λ (x : KeeperView). (l : ℕ) (d : LaneState) → get_elem? x.lane_states l ≡ some d → AreParts w.sizes (parts_of d.stage)) (sym same)
          (λ l d e. subst (λ (x : LaneState). AreParts w.sizes (parts_of x.stage)) (same_there w.sizes.lanes l idle_lane d e) tt);
    }
