-- What the turn rule says of a table that is closed.
use Rattle.std.proofs.Common.{◌≡◌, ◌≢◌, ℕ, suc, ◌+◌, ◌<◌, ◌≤◌, List, [], ◌∷◌, ◌++◌, length, set, drop, Option, Some, None, false, refl, sym, ap, ◌∙◌, subst, ⊎_elim, inl, inr, arith, length-set}
use mathlib.Core.Option.{Option as Home, some, none, some-injective}
use lib.ListN.{get_elem?}
use Rattle.atomic_table.specs.Table.{State, Final, Seen}
use Rattle.atomic_table.proofs.Lists.{set_else}
use Rattle.voice_model.specs.declared.calls.Entry.{Entry}
use Rattle.turnstile.specs.Histories.{entries_of, IsLanded}
use Rattle.turnstile.specs.declared.view.Stage.TheVariants.{Outside, Entered, Spent}
use Rattle.turnstile.specs.declared.view.View.{View}
use Rattle.turnstile.specs.declared.view.Start.{Start}
use Rattle.turnstile.specs.Turns.{is_spent, bit, Begins, Every, IsOfPasses, StandsIn, spent_view, spents, Each, FitsOld, Rests, Kept}
use Rattle.turnstile.proofs.Views.{every_weaker, bit_small, at_same, sum_set, sum_below}
use Rattle.turnstile.proofs.Turning.{drop_front, live, not_spent}

module _ {T O : Type 0} (origin : T → O) (history : T → List Entry) (stands : T → Type 0) where
  -- two views that are not spent
  two_live : (views : List (View T)) (i j : ℕ) (v u : View T) → get_elem? views i ≡ some v → get_elem? views j ≡ some u → j ≢ i → is_spent v.stage ≡ false → is_spent u.stage ≡ false → spents views + 2 ≤ length views
  two_live views i j v u e f apart a b =
      let mid : List (View T) = set views i spent_view in
      let f' : get_elem? mid j ≡ some u = set_else views i j spent_view apart ∙ f in
      let s1 = sum_set (λ u. bit (is_spent u.stage)) views i v spent_view e in
      let s2 = sum_set (λ u. bit (is_spent u.stage)) mid j u spent_view f' in
      let most : spents (set mid j spent_view) ≤ length (set mid j spent_view) = sum_below (λ u. bit (is_spent u.stage)) (λ u. bit_small (is_spent u.stage)) (set mid j spent_view) in
      let long : length (set mid j spent_view) ≡ length views = length-set mid j spent_view ∙ length-set views i spent_view in
      let a' : bit (is_spent v.stage) ≡ 0 = ap bit a in
      let b' : bit (is_spent u.stage) ≡ 0 = ap bit b in
      omega arith

  -- the rule once all passes are joined in one
  pub closes : (k : Start T) (id : ℕ) (v : View T) (s : State (Option T) (View T)) → Kept origin history stands k s → get_elem? s.views id ≡ some v → v.stage ≡ Outside → k.callers ≤ suc (length v.olds)
      → (y : T) × (s.homes ≡ some (Some y) ∷ []) × (origin y ≡ origin k.base.value) × stands y
      × Begins (history k.base.value) (history y) × Every (IsOfPasses k.callers) (drop (length (history k.base.value)) (history y))
      × StandsIn (history k.base.value) (history y) v.caller v.seen v.mine
      × Every (λ o. StandsIn (history k.base.value) (history y) o.caller o.seen o.mine) v.olds
  closes k id v s h at out all =
      let n = h.count in
      let start : List Entry = history k.base.value in
      let log : List Entry = start ++ n.news in
      let alive : v.stage ≢ Spent = not_spent v Outside out refl in
      let mine = live k.base log n id v alive (h.views id v at) in
      ⊎_elim
      (λ (x : (y : T) × (s.homes ≡ some (Some y) ∷ []) × Rests origin history stands k.base log y × Each (λ i v. v.stage ≢ Entered) s.views).
      let is : history x.0 ≡ log = x.2.0 in
      let rest : drop (length start) (history x.0) ≡ n.news = ap (drop (length start)) is ∙ drop_front start n.news in
      let fits : (by : ℕ) (seen mine : List Entry) → Begins seen log → mine ≡ entries_of by n.news → StandsIn start (history x.0) by seen mine = λ by seen mine b m. (subst (Begins seen) (sym is) b, m ∙ ap (entries_of by) (sym rest)) in (
        x.0,
        x.1,
        x.2.1,
        x.2.2,
        (n.news, is),
        subst (Every (IsOfPasses k.callers)) (sym rest) (every_weaker (IsOfPasses n.passes) (IsOfPasses k.callers) n.news (λ e z. ⊎_elim (λ (l : IsLanded e). inl l) (λ (m : (0 < e.caller) × (e.caller ≤ n.passes)). inr (m.0, (let b = m.1 in let c = h.passes.1 in omega arith))) z) h.callers),
        fits v.caller v.seen v.mine mine.0.seen mine.0.mine,
        every_weaker (FitsOld log n.news s.views) (λ o. StandsIn start (history x.0) o.caller o.seen o.mine) v.olds (λ o f. fits o.caller o.seen o.mine f.seen f.mine) (h.olds id v at),
      ))
      (λ (x : (s.homes ≡ none ∷ []) × ((i : ℕ) × (v : View T) × (get_elem? s.views i ≡ some v) × (v.stage ≡ Entered))).
      let two = two_live s.views id x.1.0 v x.1.1 at x.1.2 (λ same. absurd (let e : Outside ≡ Entered = sym out ∙ ap (λ (z : View T). z.stage) (at_same s.views id x.1.0 v x.1.1 at x.1.2 (sym same)) ∙ x.1.3 in cc)) (ap is_spent out) (ap is_spent x.1.3) in
      let part = sum_set (λ u. length u.olds) s.views id v spent_view at in
      absurd (let a = h.joined in let b = h.passes.0 in let c = h.passes.1 in omega arith))
      h.lies

  -- what a table that was closed with that seat leaves
  abbrev pub Ends : Start T → View T → T → Type 0
  Ends k v y =
      (origin y ≡ origin k.base.value) × stands y
      × Begins (history k.base.value) (history y) × Every (IsOfPasses k.callers) (drop (length (history k.base.value)) (history y))
      × StandsIn (history k.base.value) (history y) v.caller v.seen v.mine
      × Every (λ o. StandsIn (history k.base.value) (history y) o.caller o.seen o.mine) v.olds

  pub ends : (k : Start T) (id : ℕ) (v : View T) (ws : List ℕ) (xs : List (Option T)) → Final (Seen (Kept origin history stands k) id v) ws xs → v.stage ≡ Outside → k.callers ≤ suc (length v.olds) → (y : T) × (get_elem? xs 0 ≡ some (Some y)) × Ends k v y
  ends k id v ws xs f out all =
      let r = closes k id v f.0 f.1.0 f.1.1 out all in
      (r.0, f.4 0 (Some r.0) (ap (λ (hs : List (Home (Option T))). get_elem? hs 0) r.1), (r.2, r.3, r.4, r.5, r.6, r.7))

  -- the slot has a value, of which that holds
  pub ends_full : (k : Start T) (id : ℕ) (v : View T) (ws : List ℕ) (xs : List (Option T)) → Final (Seen (Kept origin history stands k) id v) ws xs → v.stage ≡ Outside → k.callers ≤ suc (length v.olds) → get_elem? xs 0 ≡ some None → ⊥
  ends_full k id v ws xs f out all e = let r = ends k id v ws xs f out all in let same : Some r.0 ≡ None = some-injective (Some r.0) None (sym r.1 ∙ e) in cc

  pub ends_with : (k : Start T) (id : ℕ) (v : View T) (ws : List ℕ) (xs : List (Option T)) (z : T) → Final (Seen (Kept origin history stands k) id v) ws xs → v.stage ≡ Outside → k.callers ≤ suc (length v.olds) → get_elem? xs 0 ≡ some (Some z) → Ends k v z
  ends_with k id v ws xs z f out all e =
      let r = ends k id v ws xs f out all in
      let same : Some r.0 ≡ Some z = some-injective (Some r.0) (Some z) (sym r.1 ∙ e) in
      subst (Ends k v) (let q : r.0 ≡ z = cc in q) r.2
