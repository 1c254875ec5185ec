-- What a grant and a return come to, over all their steps.
use Rattle.std.proofs.Common.{◌≡◌, ℕ, zero, suc, ◌+◌, ◌*◌, ◌≤◌, ◌<◌, List, [], ◌∷◌, length, set, true, false, refl, sym, ap, ◌∙◌, arith, suc-mul}
use Rattle.std.proofs.lemmas.List.Sums.{sum_by-cons}
use Rattle.std.proofs.lemmas.Grind.{get_or-set_at}
use Rattle.atomic_table.specs.declared.shared.Seat.{Seat}
use Rattle.frame_pool.specs.declared.views.Part.{Part}
use Rattle.frame_pool.specs.declared.views.Parts.{Parts}
use Rattle.frame_pool.specs.declared.views.Sizes.{Sizes}
use Rattle.frame_pool.specs.declared.views.Stage.TheVariants.{Reserved, Handed}
use Rattle.frame_pool.specs.declared.views.LaneState.{LaneState}
use Rattle.frame_pool.specs.declared.views.KeeperView.{KeeperView}
use Rattle.frame_pool.specs.declared.views.LeaseView.{LeaseView}
use Rattle.frame_pool.specs.declared.views.View.{View}
use Rattle.frame_pool.specs.Words.{total}
use Rattle.frame_pool.specs.Rule.{idle_lane}
use Rattle.frame_pool.specs.Steps.{Seated, lane_at, parts_of, hinted_lane, hinted, reserved, handed_stage, handed, leased, keeper_view, lease_view}
use Rattle.frame_pool.specs.Pool.{Identity, LeaseIs, AreParts}
use Rattle.frame_pool.proofs.Moves.{keeping}
use Rattle.frame_pool.proofs.LaneStates.{changing}
use Rattle.frame_pool.proofs.Leases.{holding}

set_twice : {A : Type 0} (l : List A) (i : ℕ) (a b : A) → set (set l i a) i b ≡ set l i b
set_twice [] i a b = refl
set_twice (x ∷ xs) zero a b = refl
set_twice (x ∷ xs) (suc i) a b = ap (λ (t : List _). x ∷ t) (set_twice xs i a b)

pub total_cons : (p : Part) (ps : List Part) → total (p ∷ ps) ≡ p.len + total ps
total_cons p ps = sum_by-cons (λ (q : Part). q.len) p ps

-- each part's length is at most a block
pub total_low : (z : Sizes) (ps : List Part) → AreParts z ps → total ps ≤ length ps * z.block
total_low z [] h = omega arith
total_low z (p ∷ ps) h = omega (arith, total_cons p ps, total_low z ps h.1, h.0.ends, suc-mul (length ps) z.block)

abbrev pub granted_lane : LaneState → List Part → LaneState
granted_lane d ps = record (hinted_lane d 0) { stage = Handed ps }

abbrev pub new_lease : KeeperView → ℕ → List Part → LeaseView
new_lease k l ps = record { sizes = k.sizes; lane = l; parts = ps; live = true; hinted = false; looks = [] }

module _ (k : KeeperView) (l : ℕ) (ps : List Part) (m₁ m₂ : Seated) (low : l < length k.lane_states) (a : m₁ ≡ keeping (hinted k l 0)) (b : m₂ ≡ keeping (reserved (keeper_view m₁.0) l ps)) where
  abbrev clear : LaneState
  clear = hinted_lane (lane_at k l) 0

  abbrev asked : LaneState
  asked = record clear { stage = Reserved ps }

  reserved_is : keeper_view m₂.0 ≡ reserved (hinted k l 0) l ps
  reserved_is = ap (λ (x : Seated). keeper_view x.0) b ∙ ap (λ (x : Seated). reserved (keeper_view x.0) l ps) a

  same_clear : lane_at (hinted k l 0) l ≡ clear
  same_clear = get_or-set_at k.lane_states l l clear idle_lane refl low

  reserved_short : reserved (hinted k l 0) l ps ≡ changing k l l asked
  reserved_short = ap (λ (d : LaneState). changing (hinted k l 0) l l (record d { stage = Reserved ps })) same_clear ∙ ap (λ (ds : List LaneState). record k { latest = l; lane_states = ds }) (set_twice k.lane_states l clear asked)

  same_asked : lane_at (changing k l l asked) l ≡ asked
  same_asked = get_or-set_at k.lane_states l l asked idle_lane refl low

  pub reserved_all : keeper_view m₂.0 ≡ changing k l l asked
  reserved_all = reserved_is ∙ reserved_short

  pub grants : (m₃ : Seated) → m₃ ≡ keeping (handed (keeper_view m₂.0)) → m₃ ≡ keeping (changing k l l (granted_lane (lane_at k l) ps))
  grants m₃ c = c ∙ ap (λ (x : KeeperView). keeping (handed x)) reserved_all
      ∙ ap (λ (d : LaneState). keeping (changing (changing k l l asked) l l (record d { stage = handed_stage d.stage }))) same_asked
      ∙ ap (λ (ds : List LaneState). keeping (record k { latest = l; lane_states = ds })) (set_twice k.lane_states l asked (granted_lane (lane_at k l) ps))

  pub leases : leased (keeper_view m₂.0) ≡ new_lease k l ps
  leases = ap leased reserved_all
      ∙ ap (λ (d : LaneState). record { sizes = k.sizes; lane = l; parts = parts_of d.stage; live = true; hinted = false; looks = [] }) same_asked

pub lease_is : (w : Identity) (k : KeeperView) (l : ℕ) (ps : List Part) (samples : List ℕ) (s : Seat Parts View) → k.sizes ≡ w.sizes → s.table_id ≡ w.id → s.me ≡ holding (new_lease k l ps) → l < w.sizes.lanes → length samples ≡ total ps
    → LeaseIs w l (total ps) true samples s
lease_is w k l ps samples s sizes table me low long =
    let same : lease_view s.me.0 ≡ new_lease k l ps = ap (λ (x : Seated). lease_view x.0) me in
    record {
      pool = table;
      seat = record { me = me ∙ (λ j. holding (sym same j)); sizes = ap (λ (x : LeaseView). x.sizes) same ∙ sizes };
      lane_is = ap (λ (x : LeaseView). x.lane) same;
      low = low;
      len_is = ap (λ (x : LeaseView). total x.parts) (sym same);
      long = long;
      live_is = ap (λ (x : LeaseView). x.live) same;
    }
