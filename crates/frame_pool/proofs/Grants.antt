-- A lane is reserved, handed out, freed and joined, and the rule stays.
use Rattle.std.proofs.Common.{◌≡◌, ℕ, ◌-◌, ◌<◌, List, [], length, get_or, set, refl, sym, ap, ◌∙◌, subst, arith, length-set}
use Rattle.std.specs.Prelude.{◌==◌}
use mathlib.Core.Option.{none, some, some-injective}
use prog.Atomic.{either}
use Rattle.std.proofs.lemmas.List.{get_or-set_other}
use Rattle.std.proofs.lemmas.Grind.{get_or-set_at}
use Rattle.atomic_table.specs.Table.{Act, Valid, step, stepped, carried_after, keeps, Allows}
use Rattle.frame_pool.specs.declared.views.Part.{Part}
use Rattle.frame_pool.specs.declared.views.Parts.{Parts}
use Rattle.frame_pool.specs.declared.views.Sizes.{Sizes}
use Rattle.frame_pool.specs.declared.views.Stage.TheVariants.{Free, Reserved}
use Rattle.frame_pool.specs.declared.views.LaneState.{LaneState}
use Rattle.frame_pool.specs.declared.views.KeeperView.{KeeperView}
use Rattle.frame_pool.specs.declared.views.View.{View}
use Rattle.frame_pool.specs.declared.views.View.TheVariants.{Keeper}
use Rattle.frame_pool.specs.Words.{lane_word, hint_word}
use Rattle.frame_pool.specs.Rule.{Ruled}
use Rattle.frame_pool.specs.Steps.{Seated, lane_at, reserved, Reserves, freed, Frees, Tells, keeper_view, IsKeeper}
use Rattle.frame_pool.proofs.Moves.{keeper_inj, kept_at, as_keeper, keeping}
use Rattle.frame_pool.proofs.LaneStates.{lane_there, lane_on, no_lease_free}

reserve_now : (k : KeeperView) (slots w l : ℕ) (ps : List Part) → w ≡ lane_word l → l < k.sizes.lanes → (lane_at k l).stage ≡ Free → (lane_at k l).hint ≡ 0
    → Allows Ruled slots 0 (Keeper k, []) w (λ n. either (n == 0) 1 n) (Reserves (step slots w 0 1 (some ps)) (Keeper k, []))
reserve_now k slots w l ps is low free off s o wide me small =
    let kept = kept_at s k o me in
    let lanes : ℕ = k.sizes.lanes in
    let in_words : w < length s.words = omega (arith, kept.wide) in
    let there = lane_there s.words s.views k l kept low in
    let old = kept.lanes l (lane_at k l) there in
    let d : LaneState = record (lane_at k l) { stage = Reserved ps } in
    let x : ℕ = get_or s.words w 0 in
    let zero_found : x ≡ 0 = ap (λ (j : ℕ). get_or s.words j 0) is ∙ old.free free in
    let G : ℕ → ℕ → Type 0 = λ v r. (u : View) × (a : Act Parts) × Valid s.homes [] a × Ruled (stepped s w v 0 [] u a) × Reserves (step slots w 0 1 (some ps)) (Keeper k, []) r (u, carried_after [] a) in
    let hit : G 1 0 = (
      Keeper (reserved k l ps),
      keeps,
      tt,
      (
        reserved k l ps,
        lane_on s.words (set s.words w 1) s.views k l l d kept low (length-set s.words w 1)
            (λ i ne _. get_or-set_other s.words w i 1 0 (λ e. ne (e ∙ is)))
            (record {
              hint = get_or-set_other s.words w (hint_word lanes l) 1 0 (λ e. omega arith) ∙ old.hint;
              bit = old.bit;
              free = λ e. absurd (cc);
              reserved = λ qs _. get_or-set_at s.words w (lane_word l) 1 0 (sym is) in_words;
              ended = λ n e. absurd (cc);
              marked = λ on _. absurd (omega (arith, off, on));
              told = old.told;
              known = old.known;
            })
            (λ id h _ e b. no_lease_free s.words k l (lane_at k l) h there e b free),
      ),
      (λ k₁ qs e said. (
        refl,
        let same_k : k ≡ k₁ = keeper_inj k k₁ e in
            let same_ps : ps ≡ qs = some-injective ps qs said in
            let at : l ≡ w - 1 = omega arith in
            λ i. keeping (reserved (same_k i) (at i) (same_ps i)),
      )),
    ) in
    subst (λ (y : ℕ). G (either (y == 0) 1 y) y) (sym zero_found) hit

pub reserves : (z : Sizes) (id : ℕ) (m : Seated) → IsKeeper z id m → (slots w l : ℕ) (ps : List Part) → w ≡ lane_word l → l < z.lanes
    → ((lane_at (keeper_view m.0) l).stage ≡ Free) × ((lane_at (keeper_view m.0) l).hint ≡ 0)
    → Allows Ruled slots id m w (λ n. either (n == 0) 1 n) (Reserves (step slots w 0 1 (some ps)) m)
reserves z id m is slots w l ps at low free =
    let z' : z ≡ (keeper_view m.0).sizes = sym is.sizes in
    as_keeper z id m is (λ (i : ℕ) (n : Seated). Allows Ruled slots i n w (λ n. either (n == 0) 1 n) (Reserves (step slots w 0 1 (some ps)) n))
    (reserve_now (keeper_view m.0) slots w l ps at (subst (λ (y : Sizes). l < y.lanes) z' low) free.0 free.1)

pub reserve_told : (z : Sizes) (id : ℕ) (m n : Seated) → IsKeeper z id m → (slots w l found : ℕ) (ps : List Part) → w ≡ lane_word l → Reserves (step slots w 0 1 (some ps)) m found n → n ≡ keeping (reserved (keeper_view m.0) l ps)
reserve_told z id m n is slots w l found ps at told =
    let k : KeeperView = keeper_view m.0 in
    let here : w - 1 ≡ l = omega arith in
    (told k ps (ap (λ (x : Seated). x.0) is.me) refl).1 ∙ (λ i. (Keeper (reserved k (here i) ps), (is.me i).1))

free_now : (k : KeeperView) (slots w l : ℕ) → w ≡ lane_word l → l < k.sizes.lanes → (lane_at k l).stage ≡ Free
    → Allows Ruled slots 0 (Keeper k, []) w (λ _. 0) (λ _. Frees (step slots w 0 0 none) (Keeper k, []) 0)
free_now k slots w l is low free s o wide me small =
    let kept = kept_at s k o me in
    let lanes : ℕ = k.sizes.lanes in
    let in_words : w < length s.words = omega (arith, kept.wide) in
    let there = lane_there s.words s.views k l kept low in
    let old = kept.lanes l (lane_at k l) there in
    let d : LaneState = record (lane_at k l) { stage = Free } in
    let none_there : get_or (set s.words w 0) (lane_word l) 0 ≡ 0 = get_or-set_at s.words w (lane_word l) 0 0 (sym is) in_words in (
      Keeper (freed k l),
      keeps,
      tt,
      (
        freed k l,
        lane_on s.words (set s.words w 0) s.views k k.latest l d kept low (length-set s.words w 0)
            (λ i ne _. get_or-set_other s.words w i 0 0 (λ e. ne (e ∙ is)))
            (record {
              hint = get_or-set_other s.words w (hint_word lanes l) 0 0 (λ e. omega arith) ∙ old.hint;
              bit = old.bit;
              free = λ _. none_there;
              reserved = λ qs e. absurd (cc);
              ended = λ _ _. none_there;
              marked = λ on busy. absurd (busy refl);
              told = old.told;
              known = old.known;
            })
            (λ id h _ e b. no_lease_free s.words k l (lane_at k l) h there e b free),
      ),
      (λ k₁ e.
          let same_k : k ≡ k₁ = keeper_inj k k₁ e in
          let at : l ≡ w - 1 = omega arith in (
            λ i. keeping (freed (same_k i) (at i)),
            subst (λ (y : KeeperView × ℕ). Tells (lane_at y.0 y.1)) (λ i. (same_k i, at i)) (old.told, old.known),
          )),
    )

pub frees : (z : Sizes) (id : ℕ) (m : Seated) → IsKeeper z id m → (slots w l : ℕ) → w ≡ lane_word l → l < z.lanes → (lane_at (keeper_view m.0) l).stage ≡ Free
    → Allows Ruled slots id m w (λ _. 0) (λ _. Frees (step slots w 0 0 none) m 0)
frees z id m is slots w l at low free =
    let z' : z ≡ (keeper_view m.0).sizes = sym is.sizes in
    as_keeper z id m is (λ (i : ℕ) (n : Seated). Allows Ruled slots i n w (λ _. 0) (λ _. Frees (step slots w 0 0 none) n 0))
    (free_now (keeper_view m.0) slots w l at (subst (λ (y : Sizes). l < y.lanes) z' low) free)

pub free_told : (z : Sizes) (id : ℕ) (m n : Seated) → IsKeeper z id m → (slots w l : ℕ) → w ≡ lane_word l → Frees (step slots w 0 0 none) m 0 n
    → (n ≡ keeping (freed (keeper_view m.0) l)) × Tells (lane_at (keeper_view m.0) l)
free_told z id m n is slots w l at told =
    let k : KeeperView = keeper_view m.0 in
    let here : w - 1 ≡ l = omega arith in
    let t = told k (ap (λ (x : Seated). x.0) is.me) in
    (t.0 ∙ (λ i. (Keeper (freed k (here i)), (is.me i).1)), subst (λ (j : ℕ). Tells (lane_at k j)) here t.1)
