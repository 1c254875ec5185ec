-- A lease is cut off from the keeper, and joined to it again, and the rule stays.
use Rattle.std.proofs.Common.{◌≡◌, ◌≢◌, ◌⊎◌, ℕ, zero, suc, ◌<◌, List, [], ◌∷◌, ◌++◌, length, get_or, set, false, true≢false, refl, sym, ap, ◌∙◌, subst, inl, inr, ⊎_elim, arith}
use mathlib.Core.Option.{some, some-injective, some-ne-none}
use lib.ListN.{get_elem?}
use Rattle.atomic_table.specs.Table.{Splits, Joins}
use Rattle.atomic_table.proofs.Lists.{at_set, at_longer, set_here, set_else}
use Rattle.frame_pool.specs.declared.views.Part.{Part}
use Rattle.frame_pool.specs.declared.views.Parts.{Parts}
use Rattle.frame_pool.specs.declared.views.Sizes.{Sizes}
use Rattle.frame_pool.specs.declared.views.Stage.{Stage}
use Rattle.frame_pool.specs.declared.views.Stage.TheVariants.{Free, Reserved, Handed, Ended}
use Rattle.frame_pool.specs.declared.views.Told.{Told}
use Rattle.frame_pool.specs.declared.views.LaneState.{LaneState}
use Rattle.frame_pool.specs.declared.views.KeeperView.{KeeperView}
use Rattle.frame_pool.specs.declared.views.LeaseView.{LeaseView}
use Rattle.frame_pool.specs.declared.views.View.{View}
use Rattle.frame_pool.specs.declared.views.View.TheVariants.{Keeper, Lease, Spent}
use Rattle.frame_pool.specs.Words.{lane_word, total}
use Rattle.frame_pool.specs.Rule.{IsOut, Stands, Bound, Kept, Ruled}
use Rattle.frame_pool.specs.Steps.{Seated, lane_at, parts_of, handed_stage, handed, leased, left_of, right_of, joined, both_of, keeper_view, lease_view, IsKeeper, IsLease, IsReserved}
use Rattle.frame_pool.proofs.Moves.{there_lt, lease_inj, keeper_not_lease, kept_at, keeping}
use Rattle.frame_pool.proofs.LaneStates.{lane_there, lane_on}
use Rattle.frame_pool.proofs.Leases.{holding}

module _ {A : Type 0} where
  at_end : (l : List A) (a b : A) (j : ℕ) → get_elem? (l ++ a ∷ []) j ≡ some b → (get_elem? l j ≡ some b) ⊎ ((j ≡ length l) × (a ≡ b))
  at_end [] a b zero e = inr (refl, some-injective a b e)
  at_end [] a b (suc j) e = absurd (some-ne-none b (sym e))
  at_end (x ∷ xs) a b zero e = inl e
  at_end (x ∷ xs) a b (suc j) e = ⊎_elim (λ t. inl t) (λ (t : (j ≡ length xs) × (a ≡ b)). inr (ap suc t.0, t.1)) (at_end xs a b j e)

  sets_commute : (l : List A) (i j : ℕ) (a b : A) → i ≢ j → set (set l i a) j b ≡ set (set l j b) i a
  sets_commute [] i j a b ne = refl
  sets_commute (x ∷ xs) zero zero a b ne = absurd (ne refl)
  sets_commute (x ∷ xs) zero (suc j) a b ne = refl
  sets_commute (x ∷ xs) (suc i) zero a b ne = refl
  sets_commute (x ∷ xs) (suc i) (suc j) a b ne = ap (λ (t : List A). x ∷ t) (sets_commute xs i j a b (λ e. ne (ap suc e)))

-- one more lease, on a lane that has none
lease_more : (ws : List ℕ) (views : List View) (k : KeeperView) (h : LeaseView) → Kept ws views k → Bound ws k h
    → ((id : ℕ) (e : LeaseView) → get_elem? views id ≡ some (Lease e) → e.lane ≢ h.lane)
    → Kept ws (views ++ Lease h ∷ []) k
lease_more ws views k h o bound alone = record {
  seated = at_longer views (Lease h ∷ []) 0 (Keeper k) o.seated;
  wide = o.wide;
  counted = o.counted;
  lanes = o.lanes;
  leases = λ j e is. ⊎_elim (λ t. o.leases j e t) (λ (t : (j ≡ length views) × (Lease h ≡ Lease e)). subst (Bound ws k) (lease_inj h e t.1) bound) (at_end views (Lease h) (Lease e) j is);
  once = λ i j f e is js same. ⊎_elim
      (λ t. ⊎_elim (λ u. o.once i j f e t u same) (λ (u : (j ≡ length views) × (Lease h ≡ Lease e)). absurd (alone i f t (same ∙ ap (λ (x : LeaseView). x.lane) (sym (lease_inj h e u.1))))) (at_end views (Lease h) (Lease e) j js))
      (λ (t : (i ≡ length views) × (Lease h ≡ Lease f)). ⊎_elim (λ u. absurd (alone j e u (sym same ∙ ap (λ (x : LeaseView). x.lane) (sym (lease_inj h f t.1))))) (λ (u : (j ≡ length views) × (Lease h ≡ Lease e)). t.0 ∙ sym u.0) (at_end views (Lease h) (Lease e) j js))
      (at_end views (Lease h) (Lease f) i is);
}

hand_now : (k : KeeperView) → k.latest < k.sizes.lanes → IsReserved (lane_at k k.latest).stage → Splits {S = Parts} Ruled 0 (Keeper k) (Keeper (handed k)) (Lease (leased k))
hand_now k low is s o at =
    let kept = kept_at s k o at in
    let l : ℕ = k.latest in
    let was : LaneState = lane_at k l in
    let ps : List Part = parts_of was.stage in
    let d : LaneState = record was { stage = handed_stage was.stage } in
    let st : d.stage ≡ Handed ps = ap handed_stage is in
    let there = lane_there s.words s.views k l kept low in
    let old = kept.lanes l was there in
    let no_lease : (id : ℕ) (e : LeaseView) → get_elem? s.views id ≡ some (Lease e) → e.lane ≢ l = λ id e at_e same.
    let b = kept.leases id e at_e in
    let same_lane : b.state ≡ was = some-injective _ _ (sym b.there ∙ ap (λ (j : ℕ). get_elem? k.lane_states j) same ∙ there) in
    let is_reserved : b.state.stage ≡ Reserved ps = ap (λ (x : LaneState). x.stage) same_lane ∙ is in
    ⊎_elim (λ (u : b.state.stage ≡ Handed e.parts). cc) (λ (u : b.state.stage ≡ Ended (total e.parts)). cc) b.out in
    let one : get_or s.words (lane_word l) 0 ≡ 1 = old.reserved ps is in
    let stands : Stands s.words k.sizes.lanes l d = record {
      hint = old.hint;
      bit = old.bit;
      free = λ e. absurd (cc);
      reserved = λ qs _. one;
      ended = λ n e. absurd (cc);
      marked = λ on _. old.marked on (λ e. cc);
      told = old.told;
      known = old.known;
    } in
    let after : Kept s.words (set s.views 0 (Keeper (handed k))) (handed k) =
    lane_on s.words s.words s.views k l l d kept low refl (λ i _ _. refl) stands (λ id h at_h e _. absurd (no_lease id h at_h e)) in
    let bound : Bound s.words (handed k) (leased k) = record {
      sizes = refl;
      state = d;
      there = set_here k.lane_states l d (there_lt k.lane_states l was there);
      out = inl st;
      word = λ _. one;
      handed = λ _. st;
      over = λ off. absurd (true≢false off);
      hinted = λ on. absurd (true≢false (sym on));
    } in (
      handed k,
      lease_more s.words (set s.views 0 (Keeper (handed k))) (handed k) (leased k) after bound
          (λ id e at_e. ⊎_elim (λ (u : (id ≡ 0) × (Keeper (handed k) ≡ Lease e)). keeper_not_lease (handed k) e u.1) (λ (u : (id ≢ 0) × (get_elem? s.views id ≡ some (Lease e))). no_lease id e u.1) (at_set s.views 0 id (Keeper (handed k)) (Lease e) at_e)),
    )

pub hands : (z : Sizes) (id : ℕ) (m : Seated) → IsKeeper z id m → (keeper_view m.0).latest < z.lanes → IsReserved (lane_at (keeper_view m.0) (keeper_view m.0).latest).stage → Splits {S = Parts} Ruled id m.0 (left_of m.0) (right_of m.0)
hands z id m is low reserved =
    let k : KeeperView = keeper_view m.0 in
    let x : Splits {S = Parts} Ruled 0 (Keeper k) (left_of (Keeper k)) (right_of (Keeper k)) = hand_now k (subst (λ (y : Sizes). k.latest < y.lanes) (sym is.sizes) low) reserved in
    subst (λ (y : ℕ × View). Splits {S = Parts} Ruled y.0 y.1 (left_of y.1) (right_of y.1)) (λ i. (sym is.first i, (sym is.me i).0)) x

-- a lease's view is spent
lease_gone : (ws : List ℕ) (views : List View) (k : KeeperView) (id : ℕ) (h : LeaseView) → Kept ws views k → get_elem? views id ≡ some (Lease h)
    → Kept ws (set views id Spent) k
lease_gone ws views k id h o at =
    let not_first : 0 ≢ id = λ e. keeper_not_lease k h (some-injective _ _ (sym o.seated ∙ ap (λ (j : ℕ). get_elem? views j) e ∙ at)) in
    let other : (j : ℕ) (e : LeaseView) → get_elem? (set views id Spent) j ≡ some (Lease e) → get_elem? views j ≡ some (Lease e) =
    λ j e is. ⊎_elim (λ (u : (j ≡ id) × (Spent ≡ Lease e)). absurd (cc (u.1))) (λ (u : (j ≢ id) × (get_elem? views j ≡ some (Lease e))). u.1) (at_set views id j Spent (Lease e) is) in
    record {
      seated = set_else views id 0 Spent not_first ∙ o.seated;
      wide = o.wide;
      counted = o.counted;
      lanes = o.lanes;
      leases = λ j e is. o.leases j e (other j e is);
      once = λ i j f e is js same. o.once i j f e (other i f is) (other j e js) same;
    }

join_now : (k : KeeperView) (id : ℕ) (h : LeaseView) → h.live ≡ false → Joins {S = Parts} Ruled 0 (Keeper k) id (Lease h) (Keeper (joined k h)) Spent
join_now k id h off s o at apart at_lease =
    let kept = kept_at s k o at in
    let at_h : get_elem? s.views id ≡ some (Lease h) = sym (set_else s.views 0 id (Keeper (joined k h)) apart) ∙ at_lease in
    let b = kept.leases id h at_h in
    let l : ℕ = h.lane in
    let low : l < k.sizes.lanes = omega (arith, there_lt k.lane_states l b.state b.there, kept.counted) in
    let there = lane_there s.words s.views k l kept low in
    let was : LaneState = lane_at k l in
    let same : b.state ≡ was = some-injective _ _ (sym b.there ∙ there) in
    let old = kept.lanes l was there in
    let found : Told = record { stage = was.stage; parts = h.parts; hinted = h.hinted } in
    let d : LaneState = record was { stage = Free; told = found } in
    let stands : Stands s.words k.sizes.lanes l d = record {
      hint = old.hint;
      bit = old.bit;
      free = λ _. b.over off;
      reserved = λ ps e. absurd (cc);
      ended = λ n e. absurd (cc);
      marked = λ _ busy. absurd (busy refl);
      told = λ on. ap (λ (x : LaneState). x.mark) (sym same) ∙ b.hinted on;
      known = subst (λ (st : Stage). IsOut st h.parts) (ap (λ (x : LaneState). x.stage) same) b.out;
    } in
    let gone = lease_gone s.words s.views k id h kept at_h in
    let no_lease : (j : ℕ) (e : LeaseView) → get_elem? (set s.views id Spent) j ≡ some (Lease e) → e.lane ≢ l = λ j e is same_lane.
    ⊎_elim (λ (u : (j ≡ id) × (Spent ≡ Lease e)). absurd (cc (u.1))) (λ (u : (j ≢ id) × (get_elem? s.views j ≡ some (Lease e))). u.0 (kept.once j id e h u.1 at_h same_lane)) (at_set s.views id j Spent (Lease e) is) in
    let after : Kept s.words (set (set s.views id Spent) 0 (Keeper (joined k h))) (joined k h) =
    lane_on s.words s.words (set s.views id Spent) k k.latest l d gone low refl (λ i _ _. refl) stands (λ j e is e_lane _. absurd (no_lease j e is e_lane)) in
    (joined k h, subst (λ (vs : List View). Kept s.words vs (joined k h)) (sets_commute s.views id 0 Spent (Keeper (joined k h)) apart) after)

pub joins : (z : Sizes) (id other : ℕ) (m n : Seated) → IsKeeper z id m → IsLease z n → (lease_view n.0).live ≡ false → Joins {S = Parts} Ruled id m.0 other n.0 (both_of m.0 n.0) Spent
joins z id other m n is lease off =
    let k : KeeperView = keeper_view m.0 in
    let h : LeaseView = lease_view n.0 in
    let x : Joins {S = Parts} Ruled 0 (Keeper k) other (Lease h) (both_of (Keeper k) (Lease h)) Spent = join_now k other h off in
    subst (λ (y : ℕ × View × View). Joins {S = Parts} Ruled y.0 y.1 other y.2 (both_of y.1 y.2) Spent) (λ i. (sym is.first i, (sym is.me i).0, (sym lease.me i).0)) x

pub join_told : (z : Sizes) (id : ℕ) (m n after : Seated) → IsKeeper z id m → IsLease z n → after ≡ (both_of m.0 n.0, m.1) → after ≡ keeping (joined (keeper_view m.0) (lease_view n.0))
join_told z id m n after is lease e = e ∙ (λ i. (both_of (is.me i).0 (lease.me i).0, (is.me i).1))

pub hand_told : (z : Sizes) (id : ℕ) (m after lease : Seated) → IsKeeper z id m → after ≡ (left_of m.0, m.1) → lease ≡ (right_of m.0, [])
    → (after ≡ keeping (handed (keeper_view m.0))) × (lease ≡ holding (leased (keeper_view m.0)))
hand_told z id m after lease is e f = (e ∙ (λ i. (left_of (is.me i).0, (is.me i).1)), f ∙ (λ i. (right_of (is.me i).0, [])))
