-- The steps of the keeper on the words of a lane keep the rule.
use Rattle.std.proofs.Common.{◌≡◌, ◌≢◌, ◌⊎◌, ℕ, ◌+◌, ◌-◌, ◌≤◌, ◌<◌, List, [], ◌∷◌, ◌++◌, length, get_or, set, Bool, true, false, true≢false, refl, sym, ap, ◌∙◌, subst, inl, inr, ⊎_elim, arith, length-set, eq-eqb, ne_eqb, eqb-true}
use Rattle.std.specs.Prelude.{if◌then◌else◌, ◌==◌}
use mathlib.Core.Option.{none, some, some-injective}
use mathlib.Core.Logic.{dite}
use native.Mathlib.Decide.{ℕ_discrete}
use lib.ListN.{get_elem?}
use Rattle.std.proofs.lemmas.List.{get_or-set_other, set-get_or}
use Rattle.std.proofs.lemmas.Grind.{get_or-set_at}
use Rattle.atomic_table.specs.Table.{step, keeps, Allows}
use Rattle.atomic_table.proofs.Lists.{at_set, set_here, set_else}
use Rattle.frame_pool.specs.declared.views.Part.{Part}
use Rattle.frame_pool.specs.declared.views.Sizes.{Sizes}
use Rattle.frame_pool.specs.declared.views.Stage.{Stage}
use Rattle.frame_pool.specs.declared.views.Stage.TheVariants.{Free, Reserved, Handed, Ended}
use Rattle.frame_pool.specs.declared.views.LaneState.{LaneState}
use Rattle.frame_pool.specs.declared.views.KeeperView.{KeeperView}
use Rattle.frame_pool.specs.declared.views.LeaseView.{LeaseView}
use Rattle.frame_pool.specs.declared.views.View.{View}
use Rattle.frame_pool.specs.declared.views.View.TheVariants.{Keeper, Lease}
use Rattle.frame_pool.specs.Words.{lane_word, hint_word, total}
use Rattle.frame_pool.specs.Rule.{idle_lane, untold, IsOut, Stands, Bound, Kept, Ruled}
use Rattle.frame_pool.specs.Steps.{Seated, lane_at, with_lane, is_free, ended, hinted_lane, hinted, Hints, looked_lane, looked, Looks, keeper_view, IsKeeper}
use Rattle.frame_pool.proofs.Moves.{there_lt, there_get, keeper_inj, kept_at, as_keeper, keeping, keeps_on, stands_same}

abbrev pub changing : KeeperView → ℕ → ℕ → LaneState → KeeperView
changing k t l d = record (with_lane k l d) { latest = t }

pub lane_there : (ws : List ℕ) (views : List View) (k : KeeperView) (l : ℕ) → Kept ws views k → l < k.sizes.lanes → get_elem? k.lane_states l ≡ some (lane_at k l)
lane_there ws views k l o low = there_get k.lane_states l idle_lane (omega (arith, o.counted))

-- the words of one lane alone may change, and what the keeper knows of it
pub lane_on : (ws ws' : List ℕ) (views : List View) (k : KeeperView) (t l : ℕ) (d : LaneState) → Kept ws views k → l < k.sizes.lanes → length ws' ≡ length ws
    → ((i : ℕ) → i ≢ lane_word l → i ≢ hint_word k.sizes.lanes l → get_or ws' i 0 ≡ get_or ws i 0)
    → Stands ws' k.sizes.lanes l d
    → ((id : ℕ) (h : LeaseView) → get_elem? views id ≡ some (Lease h) → h.lane ≡ l → Bound ws k h → Bound ws' (changing k t l d) h)
    → Kept ws' (set views 0 (Keeper (changing k t l d))) (changing k t l d)
lane_on ws ws' views k t l d o low long apart stands mine =
    let lanes : ℕ = k.sizes.lanes in
    let lane_of : (j : ℕ) (e : LaneState) → get_elem? k.lane_states j ≡ some e → j < lanes = λ j e is. omega (arith, there_lt k.lane_states j e is, o.counted) in
    let lane_same : (j : ℕ) → j < lanes → j ≢ l → get_or ws' (lane_word j) 0 ≡ get_or ws (lane_word j) 0 = λ j h ne. apart (lane_word j) (λ e. ne (omega arith)) (λ e. omega arith) in
    let hint_same : (j : ℕ) → j < lanes → j ≢ l → get_or ws' (hint_word lanes j) 0 ≡ get_or ws (hint_word lanes j) 0 = λ j h ne. apart (hint_word lanes j) (λ e. omega arith) (λ e. ne (omega arith)) in
    keeps_on ws ws' views k (changing k t l d) o refl long (length-set k.lane_states l d)
    (λ j e is. ⊎_elim
    (λ (u : (j ≡ l) × (d ≡ e)). subst (λ (y : ℕ × LaneState). Stands ws' lanes y.0 y.1) (λ i. (sym u.0 i, u.1 i)) stands)
    (λ (u : (j ≢ l) × (get_elem? k.lane_states j ≡ some e)). let h = lane_of j e u.1 in stands_same ws ws' lanes j e (hint_same j h u.0) (lane_same j h u.0) (o.lanes j e u.1))
    (at_set k.lane_states l j d e is))
    (λ id h is b. dite (ℕ_discrete h.lane l) (λ e. mine id h is e b)
    (λ ne. let t = lane_same h.lane (lane_of h.lane b.state b.there) ne in record {
      sizes = b.sizes;
      state = b.state;
      there = set_else k.lane_states l h.lane d ne ∙ b.there;
      out = b.out;
      word = λ on. t ∙ b.word on;
      handed = b.handed;
      over = λ off. t ∙ b.over off;
      hinted = b.hinted;
    }))

-- the lease of this lane, where the lane's word stays
pub bound_same : (ws ws' : List ℕ) (k : KeeperView) (t l : ℕ) (d : LaneState) (h : LeaseView) → h.lane ≡ l → (b : Bound ws k h)
    → (d.stage ≡ Handed h.parts) ⊎ (d.stage ≡ Ended (total h.parts))
    → get_or ws' (lane_word l) 0 ≡ get_or ws (lane_word l) 0
    → (h.live ≡ true → d.stage ≡ Handed h.parts)
    → (b.state.mark ≡ true → d.mark ≡ true)
    → Bound ws' (changing k t l d) h
bound_same ws ws' k t l d h e b out lane handed mark =
    let same : get_or ws' (lane_word h.lane) 0 ≡ get_or ws (lane_word h.lane) 0 = subst (λ (j : ℕ). get_or ws' (lane_word j) 0 ≡ get_or ws (lane_word j) 0) (sym e) lane in
    record {
      sizes = b.sizes;
      state = d;
      there = ap (λ (j : ℕ). get_elem? (set k.lane_states l d) j) e ∙ set_here k.lane_states l d (subst (λ (j : ℕ). j < length k.lane_states) e (there_lt k.lane_states h.lane b.state b.there));
      out = out;
      word = λ on. same ∙ b.word on;
      handed = handed;
      over = λ off. same ∙ b.over off;
      hinted = λ on. mark (b.hinted on);
    }

-- a lane that is free or reserved has no lease
pub no_lease_free : {P : Type 0} (ws : List ℕ) (k : KeeperView) (l : ℕ) (d : LaneState) (h : LeaseView) → get_elem? k.lane_states l ≡ some d → h.lane ≡ l → Bound ws k h → d.stage ≡ Free → P
no_lease_free ws k l d h there e b free =
    let same : b.state ≡ d = some-injective _ _ (sym b.there ∙ ap (λ (j : ℕ). get_elem? k.lane_states j) e ∙ there) in
    let st : b.state.stage ≡ Free = ap (λ (x : LaneState). x.stage) same ∙ free in
    absurd (⊎_elim (λ (u : b.state.stage ≡ Handed h.parts). cc) (λ (u : b.state.stage ≡ Ended (total h.parts)). cc) b.out)

-- A hint word is stored.

mark_kept : (d : LaneState) (n : ℕ) → is_free d.stage ≡ false → d.mark ≡ true → (hinted_lane d n).mark ≡ true
mark_kept d n busy on = elim (n == 1) as (λ v. (if v then true else (if is_free d.stage then false else d.mark)) ≡ true) [ true ↦ refl | false ↦ ap (λ v. if v then false else d.mark) busy ∙ on ]

hint_stands : (ws ws' : List ℕ) (lanes l n : ℕ) (d : LaneState) → n ≤ 1 → get_or ws' (hint_word lanes l) 0 ≡ n → get_or ws' (lane_word l) 0 ≡ get_or ws (lane_word l) 0 → Stands ws lanes l d → Stands ws' lanes l (hinted_lane d n)
hint_stands ws ws' lanes l n d low here lane s =
    let known : (b : Bool) → is_free d.stage ≡ b → (if b then untold else d.told).hinted ≡ true → (hinted_lane d n).mark ≡ true = λ b. elim b as (λ v. is_free d.stage ≡ v → (if v then untold else d.told).hinted ≡ true → (hinted_lane d n).mark ≡ true) [
      | true ↦ λ _ e. absurd (true≢false (sym e))
      | false ↦ λ busy e. mark_kept d n busy (s.told e)
    ] in
    record {
      hint = here;
      bit = low;
      free = λ e. lane ∙ s.free e;
      reserved = λ ps e. lane ∙ s.reserved ps e;
      ended = λ m e. lane ∙ s.ended m e;
      marked = λ e _. ap (λ v. if v then true else (if is_free d.stage then false else d.mark)) (eq-eqb n 1 e);
      told = λ e. known (is_free d.stage) refl e;
      known = elim (is_free d.stage) as (λ v. IsOut (if v then untold else d.told).stage (if v then untold else d.told).parts) [ true ↦ inr refl | false ↦ s.known ];
    }

hint_now : (k : KeeperView) (slots w l new : ℕ) → w ≡ hint_word k.sizes.lanes l → l < k.sizes.lanes → new ≤ 1
    → Allows Ruled slots 0 (Keeper k, []) w (λ _. new) (λ _. Hints (step slots w new 0 none) (Keeper k, []) new)
hint_now k slots w l new is low bit s o wide me small =
    let kept = kept_at s k o me in
    let lanes : ℕ = k.sizes.lanes in
    let in_words : w < length s.words = omega (arith, kept.wide) in
    let there = lane_there s.words s.views k l kept low in
    let d : LaneState = hinted_lane (lane_at k l) new in
    let lane : get_or (set s.words w new) (lane_word l) 0 ≡ get_or s.words (lane_word l) 0 = get_or-set_other s.words w (lane_word l) new 0 (λ e. omega arith) in (
      Keeper (hinted k l new),
      keeps,
      tt,
      (
        hinted k l new,
        lane_on s.words (set s.words w new) s.views k k.latest l d kept low (length-set s.words w new)
            (λ i _ ne. get_or-set_other s.words w i new 0 (λ e. ne (e ∙ is)))
            (hint_stands s.words (set s.words w new) lanes l new (lane_at k l) bit (get_or-set_at s.words w (hint_word lanes l) new 0 (sym is) in_words) lane (kept.lanes l (lane_at k l) there))
            (λ id h _ e b.
            let same : b.state ≡ lane_at k l = some-injective _ _ (sym b.there ∙ ap (λ (j : ℕ). get_elem? k.lane_states j) e ∙ there) in
            let st : b.state.stage ≡ (lane_at k l).stage = ap (λ (x : LaneState). x.stage) same in
            let busy : is_free (lane_at k l).stage ≡ false = ⊎_elim (λ (u : b.state.stage ≡ Handed h.parts). ap is_free (sym st ∙ u)) (λ (u : b.state.stage ≡ Ended (total h.parts)). ap is_free (sym st ∙ u)) b.out in
            bound_same s.words (set s.words w new) k k.latest l d h e b
            (⊎_elim (λ (u : b.state.stage ≡ Handed h.parts). inl (sym st ∙ u)) (λ (u : b.state.stage ≡ Ended (total h.parts)). inr (sym st ∙ u)) b.out)
            lane
            (λ on. sym st ∙ b.handed on)
            (λ on. mark_kept (lane_at k l) new busy (ap (λ (x : LaneState). x.mark) (sym same) ∙ on))),
      ),
      (λ k₁ e. let same_k : k ≡ k₁ = keeper_inj k k₁ e in
          subst (λ (q : KeeperView). keeping (hinted k l new) ≡ keeping (hinted q (w - (q.sizes.lanes + 1)) new)) same_k
          (let at : l ≡ w - (k.sizes.lanes + 1) = omega arith in ap (λ (x : ℕ). keeping (hinted k x new)) at)),
    )

pub hints : (z : Sizes) (id : ℕ) (m : Seated) → IsKeeper z id m → (slots w l new : ℕ) → w ≡ hint_word z.lanes l → l < z.lanes → new ≤ 1
    → Allows Ruled slots id m w (λ _. new) (λ _. Hints (step slots w new 0 none) m new)
hints z id m is slots w l new at low bit =
    let z' : z ≡ (keeper_view m.0).sizes = sym is.sizes in
    as_keeper z id m is (λ (i : ℕ) (n : Seated). Allows Ruled slots i n w (λ _. new) (λ _. Hints (step slots w new 0 none) n new))
    (hint_now (keeper_view m.0) slots w l new (at ∙ ap (λ (y : Sizes). hint_word y.lanes l) z') (subst (λ (y : Sizes). l < y.lanes) z' low) bit)

pub hint_told : (z : Sizes) (id : ℕ) (m n : Seated) → IsKeeper z id m → (slots w l new : ℕ) → w ≡ hint_word z.lanes l → Hints (step slots w new 0 none) m new n → n ≡ keeping (hinted (keeper_view m.0) l new)
hint_told z id m n is slots w l new at told =
    let k : KeeperView = keeper_view m.0 in
    let here : w - (k.sizes.lanes + 1) ≡ l = omega (arith, ap (λ (y : Sizes). y.lanes) is.sizes) in
    told k (ap (λ (x : Seated). x.0) is.me) ∙ (λ i. (Keeper (hinted k (here i) new), (is.me i).1))

-- The keeper loads a lane's word.

out_ended : (st : Stage) (ps : List Part) → (st ≡ Handed ps) ⊎ (st ≡ Ended (total ps)) → (ended st ≡ Handed ps) ⊎ (ended st ≡ Ended (total ps))
out_ended st ps o = ⊎_elim (λ (u : st ≡ Handed ps). inr (ap ended u)) (λ (u : st ≡ Ended (total ps)). inr (ap ended u)) o

reserved_ended : (st : Stage) (ps : List Part) → ended st ≡ Reserved ps → st ≡ Reserved ps
reserved_ended Free ps e = e
reserved_ended (Reserved qs) ps e = e
reserved_ended (Handed qs) ps e = absurd (cc)
reserved_ended (Ended n) ps e = e

free_ended : (st : Stage) → ended st ≡ Free → st ≡ Free
free_ended Free e = e
free_ended (Reserved qs) e = e
free_ended (Handed qs) e = absurd (cc)
free_ended (Ended n) e = e

abbrev looked_by : Bool → LaneState → ℕ → LaneState
looked_by b d n = record d { stage = (if b then ended d.stage else d.stage); looks = d.looks ++ n ∷ [] }

look_stands : (ws : List ℕ) (lanes l n : ℕ) (d : LaneState) → get_or ws (lane_word l) 0 ≡ n → Stands ws lanes l d → (b : Bool) → (n == 0) ≡ b → Stands ws lanes l (looked_by b d n)
look_stands ws lanes l n d is s b e = elim b as (λ v. (n == 0) ≡ v → Stands ws lanes l (looked_by v d n)) [
  | true ↦ λ zero. let none-left : get_or ws (lane_word l) 0 ≡ 0 = is ∙ eqb-true n 0 zero in record {
    hint = s.hint;
    bit = s.bit;
    free = λ _. none-left;
    reserved = λ ps st. s.reserved ps (reserved_ended d.stage ps st);
    ended = λ _ _. none-left;
    marked = λ on busy. s.marked on (λ st. busy (ap ended st));
    told = s.told;
    known = s.known;
  }
  | false ↦ λ _. record { hint = s.hint; bit = s.bit; free = s.free; reserved = s.reserved; ended = s.ended; marked = s.marked; told = s.told; known = s.known }
] e

look_now : (k : KeeperView) (slots w l : ℕ) → w ≡ lane_word l → l < k.sizes.lanes
    → Allows Ruled slots 0 (Keeper k, []) w (λ n. n) (Looks (step slots w 0 0 none) (Keeper k, []))
look_now k slots w l is low s o wide me small =
    let kept = kept_at s k o me in
    let lanes : ℕ = k.sizes.lanes in
    let n : ℕ = get_or s.words w 0 in
    let there = lane_there s.words s.views k l kept low in
    let d : LaneState = looked_lane (lane_at k l) n in
    let here : get_or s.words (lane_word l) 0 ≡ n = ap (λ (j : ℕ). get_or s.words j 0) (sym is) in
    let stands : Stands s.words lanes l d = look_stands s.words lanes l n (lane_at k l) here (kept.lanes l (lane_at k l) there) (n == 0) refl in
    let same_words : set s.words w n ≡ s.words = set-get_or s.words w 0 in (
      Keeper (looked k l n),
      keeps,
      tt,
      (
        looked k l n,
        subst (λ (ws : List ℕ). Kept ws (set s.views 0 (Keeper (looked k l n))) (looked k l n)) (sym same_words)
            (lane_on s.words s.words s.views k k.latest l d kept low refl (λ i _ _. refl) stands
            (λ id h _ e b.
            let same : b.state ≡ lane_at k l = some-injective _ _ (sym b.there ∙ ap (λ (j : ℕ). get_elem? k.lane_states j) e ∙ there) in
            let st : b.state.stage ≡ (lane_at k l).stage = ap (λ (x : LaneState). x.stage) same in
            let out : ((lane_at k l).stage ≡ Handed h.parts) ⊎ ((lane_at k l).stage ≡ Ended (total h.parts)) = ⊎_elim (λ (u : b.state.stage ≡ Handed h.parts). inl (sym st ∙ u)) (λ (u : b.state.stage ≡ Ended (total h.parts)). inr (sym st ∙ u)) b.out in
            let after : (v : Bool) → ((looked_by v (lane_at k l) n).stage ≡ Handed h.parts) ⊎ ((looked_by v (lane_at k l) n).stage ≡ Ended (total h.parts)) =
            λ v. elim v as (λ x. ((looked_by x (lane_at k l) n).stage ≡ Handed h.parts) ⊎ ((looked_by x (lane_at k l) n).stage ≡ Ended (total h.parts))) [ true ↦ out_ended (lane_at k l).stage h.parts out | false ↦ out ] in
            bound_same s.words s.words k k.latest l d h e b (after (n == 0)) refl
            (λ on.
            let one : n ≡ 1 = sym here ∙ subst (λ (j : ℕ). get_or s.words (lane_word j) 0 ≡ 1) e (b.word on) in
            ap (λ v. (looked_by v (lane_at k l) n).stage) (ne_eqb n 0 (λ z. omega arith)) ∙ sym st ∙ b.handed on)
            (λ on. ap (λ (x : LaneState). x.mark) (sym same) ∙ on))),
      ),
      (λ k₁ e. let same_k : k ≡ k₁ = keeper_inj k k₁ e in
          subst (λ (q : KeeperView). keeping (looked k l n) ≡ keeping (looked q (w - 1) n)) same_k
          (let at : l ≡ w - 1 = omega arith in ap (λ (x : ℕ). keeping (looked k x n)) at)),
    )

pub looks : (z : Sizes) (id : ℕ) (m : Seated) → IsKeeper z id m → (slots w l : ℕ) → w ≡ lane_word l → l < z.lanes
    → Allows Ruled slots id m w (λ n. n) (Looks (step slots w 0 0 none) m)
looks z id m is slots w l at low =
    let z' : z ≡ (keeper_view m.0).sizes = sym is.sizes in
    as_keeper z id m is (λ (i : ℕ) (n : Seated). Allows Ruled slots i n w (λ x. x) (Looks (step slots w 0 0 none) n))
    (look_now (keeper_view m.0) slots w l at (subst (λ (y : Sizes). l < y.lanes) z' low))

pub look_told : (z : Sizes) (id : ℕ) (m n : Seated) → IsKeeper z id m → (slots w l found : ℕ) → w ≡ lane_word l → Looks (step slots w 0 0 none) m found n → n ≡ keeping (looked (keeper_view m.0) l found)
look_told z id m n is slots w l found at told =
    let k : KeeperView = keeper_view m.0 in
    let here : w - 1 ≡ l = omega arith in
    told k (ap (λ (x : Seated). x.0) is.me) ∙ (λ i. (Keeper (looked k (here i) found), (is.me i).1))
