-- A split keeps the turn rule.
use Rattle.std.proofs.Common.{◌≡◌, ◌≢◌, ℕ, zero, suc, ◌+◌, ◌<◌, ◌≤◌, List, [], ◌∷◌, ◌++◌, length, set, Option, Some, false, true≢false, refl, sym, ap, ◌∙◌, subst, ⊎_elim, inl, inr, arith, length-append, length-set}
use Rattle.std.proofs.lemmas.List.Sums.{sum_by_push}
use mathlib.Core.Option.{Option as Home, some, none, some-ne-none, some-injective}
use lib.ListN.{get_elem?}
use Rattle.std.specs.declared.snapshot.Snapshot.{Snapshot}
use Rattle.atomic_table.specs.Table.{Splits}
use Rattle.atomic_table.proofs.Lists.{at_snoc, at_longer}
use Rattle.voice_model.specs.declared.calls.Entry.{Entry}
use Rattle.turnstile.specs.Histories.{IsLanded}
use Rattle.turnstile.specs.declared.view.Stage.TheVariants.{Outside, Entered, Spent}
use Rattle.turnstile.specs.declared.view.Old.{Old}
use Rattle.turnstile.specs.declared.view.View.{View}
use Rattle.turnstile.specs.declared.view.Start.{Start}
use Rattle.turnstile.specs.Turns.{has_ticket, is_spent, bit, Every, IsOfPasses, spent_view, one_more, newcomer, tickets, spents, olds_of, Each, Apart, Count, FitsOld, Knows, Queues, Fits, Rests, Lies, Kept}
use Rattle.turnstile.proofs.Views.{every_weaker, each_set, apart_kept, sum_set, olds_set, joined_set, none_yet}
use Rattle.turnstile.proofs.Turning.{live, not_spent, lies_stays}

module _ {T O : Type 0} (origin : T → O) (history : T → List Entry) (stands : T → Type 0) where
  pub splits : (k : Start T) (id : ℕ) (v : View T) → v.stage ≡ Outside → 0 < v.made → v.made < k.callers → Splits (Kept origin history stands k) id v (one_more v) (newcomer v)
  splits k id v out lead room s h at =
      let n = h.count in
      let log : List Entry = history k.base.value ++ n.news in
      let w : View T = one_more v in
      let r : View T = newcomer v in
      let mid : List (View T) = set s.views id w in
      let n' : Count = record { news = n.news; served = n.served; drawn = n.drawn; passes = suc n.passes } in
      let alive : v.stage ≢ Spent = not_spent v Outside out refl in
      let mine = live k.base log n id v alive (h.views id v at) in
      let leads : (id ≡ 0) × (v.made ≡ n.passes) = ⊎_elim (λ (z : v.made ≡ 0). absurd (omega arith)) (λ (x : (id ≡ 0) × (v.made ≡ n.passes)). x) mine.0.made in
      let long : length mid ≡ n.passes = length-set s.views id w ∙ h.passes.0 in
      let views_mid : Each (Fits k.base log n') mid = each_set (Fits k.base log n') s.views id w
      (λ j u other e.
      ⊎_elim (λ (x : u ≡ spent_view). inl x)
      (λ (x : Knows k.base log n.news n.passes j u × Queues log n.served n.drawn u). inr (
        record { base = x.0.base; caller = x.0.caller; made = ⊎_elim (λ (z : u.made ≡ 0). inl z) (λ (y : (j ≡ 0) × (u.made ≡ n.passes)). absurd (other (y.0 ∙ sym leads.0))) x.0.made; seen = x.0.seen; mine = x.0.mine },
        x.1,
      ))
      (h.views j u e))
      (inr (record { base = mine.0.base; caller = mine.0.caller; made = inr (leads.0, ap suc leads.1); seen = mine.0.seen; mine = mine.0.mine }, record { ticket = mine.1.ticket; turn = mine.1.turn })) in
      let olds_mid = olds_set log n.news s.views id v w at alive refl h.olds in
      let longer : (xs : List Old) → Every (FitsOld log n.news mid) xs → Every (FitsOld log n.news (mid ++ r ∷ [])) xs = λ xs g. every_weaker (FitsOld log n.news mid) (FitsOld log n.news (mid ++ r ∷ [])) xs (λ o f. record { seen = f.seen; mine = f.mine; spent = (f.spent.0, f.spent.1, at_longer mid (r ∷ []) f.spent.0 spent_view f.spent.2) }) g in
      let apart_mid : Apart mid = apart_kept s.views id v w at h.apart (λ t. (t, refl)) in
      let sum = sum_set (λ u. bit (has_ticket u.stage)) s.views id v w at in
      record {
        count = n';
        few = h.few;
        doors = h.doors;
        words = h.words;
        queue = (let q = h.queue in let e : tickets (mid ++ r ∷ []) ≡ tickets mid + 0 = sum_by_push (λ u. bit (has_ticket u.stage)) mid r in omega arith);
        passes = (length-append mid (r ∷ []) ∙ (let e : length mid + 1 ≡ suc n.passes = omega arith in e), (let m = leads.1 in omega arith));
        joined = (let e : olds_of (mid ++ r ∷ []) ≡ olds_of mid + 0 = sum_by_push (λ u. length u.olds) mid r in let f : spents (mid ++ r ∷ []) ≡ spents mid + 0 = sum_by_push (λ u. bit (is_spent u.stage)) mid r in let g = joined_set s.views id v w at refl refl h.joined in omega arith);
        callers = every_weaker (IsOfPasses n.passes) (IsOfPasses (suc n.passes)) n.news (λ e x. ⊎_elim (λ (l : IsLanded e). inl l) (λ (m : (0 < e.caller) × (e.caller ≤ n.passes)). inr (m.0, (let b = m.1 in omega arith))) x) h.callers;
        views = each_more (Fits k.base log n') mid r views_mid
            (inr (
              record {
                base = mine.0.base;
                caller = ap suc (leads.1 ∙ sym long);
                made = inl refl;
                seen = mine.0.seen;
                mine = sym (none_yet n.passes (suc v.made) n.news (let m = leads.1 in omega arith) h.callers);
              },
              record { ticket = λ t. absurd (true≢false (sym t)); turn = λ t. absurd (true≢false (sym t)) },
            ));
        olds = each_more (λ i u. Every (FitsOld log n.news (mid ++ r ∷ [])) u.olds) mid r (λ i u e. longer u.olds (olds_mid i u e)) tt;
        apart = apart_more mid r apart_mid refl;
        lies = lies_more k.base log s.homes mid r (lies_stays origin history stands k.base log s.homes s.views id v w at (λ e. absurd (let f : Outside ≡ Entered = sym out ∙ e in cc)) (λ e. absurd (let f : Outside ≡ Entered = sym out ∙ e in cc)) h.lies) (λ e. cc);
      }
    where
      each_more : (P : ℕ → View T → Type 0) (views : List (View T)) (r : View T) → Each P views → P (length views) r → Each P (views ++ r ∷ [])
      each_more P [] r h p zero v e = subst (P 0) (some-injective r v e) p
      each_more P [] r h p (suc i) v e = absurd (some-ne-none v (sym e))
      each_more P (x ∷ xs) r h p zero v e = h zero v e
      each_more P (x ∷ xs) r h p (suc i) v e = each_more (λ j u. P (suc j) u) xs r (λ j u f. h (suc j) u f) p i v e

      apart_more : (views : List (View T)) (r : View T) → Apart views → has_ticket r.stage ≡ false → Apart (views ++ r ∷ [])
      apart_more views r apart none_ i j v u e f tv tu same =
          ⊎_elim
          (λ (x : get_elem? views i ≡ some v).
          ⊎_elim (λ (y : get_elem? views j ≡ some u). apart i j v u x y tv tu same)
          (λ (y : r ≡ u). absurd (true≢false (sym tu ∙ sym (ap (λ (z : View T). has_ticket z.stage) y) ∙ none_)))
          (at_snoc views r u j f))
          (λ (x : r ≡ v). absurd (true≢false (sym tv ∙ sym (ap (λ (z : View T). has_ticket z.stage) x) ∙ none_)))
          (at_snoc views r v i e)

      lies_more : (base : Snapshot T) (log : List Entry) (homes : List (Home (Option T))) (views : List (View T)) (r : View T) → Lies origin history stands base log homes views → r.stage ≢ Entered → Lies origin history stands base log homes (views ++ r ∷ [])
      lies_more base log homes views r h out =
          ⊎_elim
          (λ (x : (y : T) × (homes ≡ some (Some y) ∷ []) × Rests origin history stands base log y × Each (λ i v. v.stage ≢ Entered) views). inl (x.0, x.1, x.2, each_more (λ i v. v.stage ≢ Entered) views r x.3 out))
          (λ (x : (homes ≡ none ∷ []) × ((i : ℕ) × (v : View T) × (get_elem? views i ≡ some v) × (v.stage ≡ Entered))). inr (x.0, (x.1.0, x.1.1, at_longer views (r ∷ []) x.1.0 x.1.1 x.1.2, x.1.3)))
          h
