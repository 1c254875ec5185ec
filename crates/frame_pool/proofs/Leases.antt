-- The steps of a lease keep the rule, and so do the split and the join of one.
use Rattle.std.proofs.Common.{◌≡◌, ◌≢◌, ℕ, ◌≤◌, ◌<◌, List, [], length, get_or, set, true, false, true≢false, refl, sym, ap, ◌∙◌, subst, ⊎_elim, arith, length-set, eqb-true}
use Rattle.std.specs.Prelude.{if◌then◌else◌, ◌==◌}
use mathlib.Core.Option.{none, some, some-injective}
use mathlib.Core.Logic.{dite}
use native.Mathlib.Decide.{ℕ_discrete}
use lib.ListN.{get_elem?}
use Rattle.std.proofs.lemmas.List.{get_or-set_other, set-get_or}
use Rattle.std.proofs.lemmas.Grind.{get_or-set_at}
use Rattle.atomic_table.specs.Table.{step, keeps, Allows}
use Rattle.atomic_table.proofs.Lists.{at_set, set_else}
use Rattle.frame_pool.specs.declared.views.Sizes.{Sizes}
use Rattle.frame_pool.specs.declared.views.Stage.TheVariants.{Free, Reserved, Handed, Ended}
use Rattle.frame_pool.specs.declared.views.LaneState.{LaneState}
use Rattle.frame_pool.specs.declared.views.KeeperView.{KeeperView}
use Rattle.frame_pool.specs.declared.views.LeaseView.{LeaseView}
use Rattle.frame_pool.specs.declared.views.View.{View}
use Rattle.frame_pool.specs.declared.views.View.TheVariants.{Lease}
use Rattle.frame_pool.specs.Words.{lane_word, hint_word, total}
use Rattle.frame_pool.specs.Rule.{Stands, Bound, Kept, Ruled}
use Rattle.frame_pool.specs.Steps.{Seated, listened, Listens, dropped, Drops, lease_view, IsLease}
use Rattle.frame_pool.proofs.Moves.{there_lt, lease_inj, keeper_not_lease, stands_same}

abbrev pub holding : LeaseView → Seated
holding h = (Lease h, [])

pub as_lease : (z : Sizes) (m : Seated) → IsLease z m → (P : Seated → Type 0) → P (holding (lease_view m.0)) → P m
as_lease z m is P x = subst P (sym is.me) x

bound_word : (ws ws' : List ℕ) (k : KeeperView) (h : LeaseView) → get_or ws' (lane_word h.lane) 0 ≡ get_or ws (lane_word h.lane) 0 → Bound ws k h → Bound ws' k h
bound_word ws ws' k h t b = record {
  sizes = b.sizes;
  state = b.state;
  there = b.there;
  out = b.out;
  word = λ on. t ∙ b.word on;
  handed = b.handed;
  over = λ off. t ∙ b.over off;
  hinted = b.hinted;
}

-- a lease's view and its lane's word change
lease_on : (ws ws' : List ℕ) (views : List View) (k : KeeperView) (id : ℕ) (h h' : LeaseView) → Kept ws views k → get_elem? views id ≡ some (Lease h) → h'.lane ≡ h.lane → length ws' ≡ length ws
    → ((i : ℕ) → i ≢ lane_word h.lane → get_or ws' i 0 ≡ get_or ws i 0)
    → ((d : LaneState) → get_elem? k.lane_states h.lane ≡ some d → Stands ws' k.sizes.lanes h.lane d)
    → Bound ws' k h'
    → Kept ws' (set views id (Lease h')) k
lease_on ws ws' views k id h h' o at lane long apart stands bound =
    let lanes : ℕ = k.sizes.lanes in
    let lane_of : (j : ℕ) (e : LaneState) → get_elem? k.lane_states j ≡ some e → j < lanes = λ j e is. omega (arith, there_lt k.lane_states j e is, o.counted) in
    let b = o.leases id h at in
    let low : h.lane < lanes = lane_of h.lane b.state b.there in
    let not_first : 0 ≢ id = λ e. keeper_not_lease k h (some-injective _ _ (sym o.seated ∙ ap (λ (j : ℕ). get_elem? views j) e ∙ at)) in
    record {
      seated = set_else views id 0 (Lease h') not_first ∙ o.seated;
      wide = long ∙ o.wide;
      counted = o.counted;
      lanes = λ l d is. dite (ℕ_discrete l h.lane)
          (λ e. subst (λ (j : ℕ). Stands ws' lanes j d) (sym e) (stands d (ap (λ (j : ℕ). get_elem? k.lane_states j) (sym e) ∙ is)))
          (λ ne. let near = lane_of l d is in stands_same ws ws' lanes l d (apart (hint_word lanes l) (λ e. omega arith)) (apart (lane_word l) (λ e. ne (omega arith))) (o.lanes l d is));
      leases = λ j e is. ⊎_elim
          (λ (u : (j ≡ id) × (Lease h' ≡ Lease e)). subst (Bound ws' k) (lease_inj h' e u.1) bound)
          (λ (u : (j ≢ id) × (get_elem? views j ≡ some (Lease e))).
          bound_word ws ws' k e (apart (lane_word e.lane) (λ same. u.0 (o.once j id e h u.1 at (omega arith)))) (o.leases j e u.1))
          (at_set views id j (Lease h') (Lease e) is);
      once = λ i j f e is js same. ⊎_elim
          (λ (u : (i ≡ id) × (Lease h' ≡ Lease f)). ⊎_elim
          (λ (v : (j ≡ id) × (Lease h' ≡ Lease e)). u.0 ∙ sym v.0)
          (λ (v : (j ≢ id) × (get_elem? views j ≡ some (Lease e))). u.0 ∙ o.once id j h e at v.1 (sym lane ∙ ap (λ (x : LeaseView). x.lane) (lease_inj h' f u.1) ∙ same))
          (at_set views id j (Lease h') (Lease e) js))
          (λ (u : (i ≢ id) × (get_elem? views i ≡ some (Lease f))). ⊎_elim
          (λ (v : (j ≡ id) × (Lease h' ≡ Lease e)). o.once i id f h u.1 at (same ∙ ap (λ (x : LeaseView). x.lane) (sym (lease_inj h' e v.1)) ∙ lane) ∙ sym v.0)
          (λ (v : (j ≢ id) × (get_elem? views j ≡ some (Lease e))). o.once i j f e u.1 v.1 same)
          (at_set views id j (Lease h') (Lease e) js))
          (at_set views id i (Lease h') (Lease f) is);
    }

-- A lease loads its lane's hint word.

heard : (n : ℕ) (h : LeaseView) (P : Type 0) → (n ≡ 1 → P) → (h.hinted ≡ true → P) → (listened h n).hinted ≡ true → P
heard n h P one old = elim (n == 1) as (λ v. ((n == 1) ≡ v → (if v then true else h.hinted) ≡ true → P)) [ true ↦ λ e _. one (eqb-true n 1 e) | false ↦ λ _ e. old e ] refl

listen_now : (h : LeaseView) (slots id w : ℕ) → w ≡ hint_word h.sizes.lanes h.lane
    → Allows Ruled slots id (Lease h, []) w (λ n. n) (Listens (step slots w 0 0 none) (Lease h, []))
listen_now h slots id w is s o wide me small =
    let k : KeeperView = o.0 in
    let kept = o.1 in
    let n : ℕ = get_or s.words w 0 in
    let b = kept.leases id h me in
    let stands = kept.lanes h.lane b.state b.there in
    let here : n ≡ b.state.hint = ap (λ (j : ℕ). get_or s.words j 0) (is ∙ ap (λ (y : Sizes). hint_word y.lanes h.lane) b.sizes) ∙ stands.hint in
    let busy : b.state.stage ≡ Free → ⊥ = λ e. ⊎_elim (λ (u : b.state.stage ≡ Handed h.parts). cc) (λ (u : b.state.stage ≡ Ended (total h.parts)). cc) b.out in
    let bound : Bound s.words k (listened h n) = record {
      sizes = b.sizes;
      state = b.state;
      there = b.there;
      out = b.out;
      word = b.word;
      handed = b.handed;
      over = b.over;
      hinted = heard n h (b.state.mark ≡ true) (λ one. stands.marked (sym here ∙ one) busy) b.hinted;
    } in
    let after : Kept s.words (set s.views id (Lease (listened h n))) k = lease_on s.words s.words s.views k id h (listened h n) kept me refl refl (λ i _. refl) (λ d is. kept.lanes h.lane d is) bound in (
      Lease (listened h n),
      keeps,
      tt,
      (k, subst (λ (ws : List ℕ). Kept ws (set s.views id (Lease (listened h n))) k) (sym (set-get_or s.words w 0)) after),
      λ h₁ e. (omega (arith, here, stands.bit), λ i. holding (listened (lease_inj h h₁ e i) n)),
    )

pub listens : (z : Sizes) (id : ℕ) (m : Seated) → IsLease z m → (slots w l : ℕ) → w ≡ hint_word z.lanes l → (lease_view m.0).lane ≡ l
    → Allows Ruled slots id m w (λ n. n) (Listens (step slots w 0 0 none) m)
listens z id m is slots w l at lane =
    as_lease z m is (λ (n : Seated). Allows Ruled slots id n w (λ x. x) (Listens (step slots w 0 0 none) n))
    (listen_now (lease_view m.0) slots id w (at ∙ (λ i. hint_word (sym is.sizes i).lanes (sym lane i))))

pub listen_told : (z : Sizes) (m n : Seated) → IsLease z m → (slots w found : ℕ) → Listens (step slots w 0 0 none) m found n → (found ≤ 1) × (n ≡ holding (listened (lease_view m.0) found))
listen_told z m n is slots w found told =
    let t = told (lease_view m.0) (ap (λ (x : Seated). x.0) is.me) in
    (t.0, t.1 ∙ (λ i. (Lease (listened (lease_view m.0) found), (is.me i).1)))

-- A lease swaps its lane's word to 0.

drop_now : (h : LeaseView) (slots id w : ℕ) → w ≡ lane_word h.lane
    → Allows Ruled slots id (Lease h, []) w (λ _. 0) (Drops (step slots w 0 0 none) (Lease h, []))
drop_now h slots id w is s o wide me small =
    let k : KeeperView = o.0 in
    let kept = o.1 in
    let b = kept.leases id h me in
    let lanes : ℕ = k.sizes.lanes in
    let low : h.lane < lanes = omega (arith, there_lt k.lane_states h.lane b.state b.there, kept.counted) in
    let in_words : w < length s.words = omega (arith, kept.wide) in
    let ws : List ℕ = set s.words w 0 in
    let none_there : get_or ws (lane_word h.lane) 0 ≡ 0 = get_or-set_at s.words w (lane_word h.lane) 0 0 (sym is) in_words in
    let bound : Bound ws k (dropped h) = record {
      sizes = b.sizes;
      state = b.state;
      there = b.there;
      out = b.out;
      word = λ on. absurd (true≢false (sym on));
      handed = λ on. absurd (true≢false (sym on));
      over = λ _. none_there;
      hinted = b.hinted;
    } in (
      Lease (dropped h),
      keeps,
      tt,
      (
        k,
        lease_on s.words ws s.views k id h (dropped h) kept me refl (length-set s.words w 0) (λ i ne. get_or-set_other s.words w i 0 0 (λ e. ne (e ∙ is)))
            (λ d there.
            let same : b.state ≡ d = some-injective _ _ (sym b.there ∙ there) in
            let old = kept.lanes h.lane d there in
            record {
              hint = get_or-set_other s.words w (hint_word lanes h.lane) 0 0 (λ e. omega arith) ∙ old.hint;
              bit = old.bit;
              free = λ _. none_there;
              reserved = λ ps e. let st : b.state.stage ≡ Reserved ps = ap (λ (x : LaneState). x.stage) same ∙ e in
                  absurd (⊎_elim (λ (u : b.state.stage ≡ Handed h.parts). cc) (λ (u : b.state.stage ≡ Ended (total h.parts)). cc) b.out);
              ended = λ _ _. none_there;
              marked = old.marked;
              told = old.told;
              known = old.known;
            })
            bound,
      ),
      λ h₁ e i. holding (dropped (lease_inj h h₁ e i)),
    )

pub drops : (z : Sizes) (id : ℕ) (m : Seated) → IsLease z m → (slots w l : ℕ) → w ≡ lane_word l → (lease_view m.0).lane ≡ l
    → Allows Ruled slots id m w (λ _. 0) (Drops (step slots w 0 0 none) m)
drops z id m is slots w l at lane =
    as_lease z m is (λ (n : Seated). Allows Ruled slots id n w (λ _. 0) (Drops (step slots w 0 0 none) n))
    (drop_now (lease_view m.0) slots id w (at ∙ ap lane_word (sym lane)))

pub drop_told : (z : Sizes) (m n : Seated) → IsLease z m → (slots w found : ℕ) → Drops (step slots w 0 0 none) m found n → n ≡ holding (dropped (lease_view m.0))
drop_told z m n is slots w found told = told (lease_view m.0) (ap (λ (x : Seated). x.0) is.me) ∙ (λ i. (Lease (dropped (lease_view m.0)), (is.me i).1))
