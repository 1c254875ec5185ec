-- The turn rule holds of a new table.
use Rattle.std.proofs.Common.{◌≡◌, ◌≢◌, ℕ, zero, suc, ◌<◌, ◌≤◌, List, [], ◌∷◌, ◌++◌, Option, Some, true≢false, refl, sym, subst, inl, inr, append-nil}
use mathlib.Core.Option.{Option as Home, some, some-ne-none, some-injective}
use lib.ListN.{get_elem?}
use Rattle.voice_model.specs.declared.calls.Entry.{Entry}
use Rattle.turnstile.specs.declared.view.Stage.TheVariants.{Entered}
use Rattle.turnstile.specs.declared.view.View.{View}
use Rattle.turnstile.specs.declared.view.Start.{Start}
use Rattle.turnstile.specs.Turns.{Every, first_view, Each, Apart, Count, FitsOld, Fits, Kept}

module _ {T O : Type 0} (origin : T → O) (history : T → List Entry) (stands : T → Type 0) where
  pub opens : (k : Start T) (words doors : List ℕ) (homes : List (Home (Option T))) → k.callers ≤ 16 → 0 < k.callers → stands k.base.value → words ≡ 0 ∷ 0 ∷ 0 ∷ doors → homes ≡ some (Some k.base.value) ∷ [] → Kept origin history stands k (record { words = words; homes = homes; views = first_view history k ∷ [] })
  opens k words doors homes few some_ good zeros full =
      record {
        count = record { news = []; served = 0; drawn = 0; passes = 1 };
        few = few;
        doors = doors;
        words = zeros;
        queue = refl;
        passes = (refl, some_);
        joined = refl;
        callers = tt;
        views = views_;
        olds = olds_;
        apart = apart_;
        lies = inl (k.base.value, full, (sym (append-nil (history k.base.value)), refl, good), (λ i v e h. lone i v e h));
      }
    where
      first : View T
      first = first_view history k

      log : List Entry
      log = history k.base.value ++ []

      start : Count
      start = record { news = []; served = 0; drawn = 0; passes = 1 }

      one : (P : ℕ → View T → Type 0) → P 0 (first_view history k) → Each P (first_view history k ∷ [])
      one P p zero v e = subst (P 0) (some-injective (first_view history k) v e) p
      one P p (suc i) v e = absurd (some-ne-none v (sym e))

      views_ : Each (Fits k.base (history k.base.value ++ []) (record { news = []; served = 0; drawn = 0; passes = 1 })) (first_view history k ∷ [])
      views_ = one (Fits k.base (history k.base.value ++ []) (record { news = []; served = 0; drawn = 0; passes = 1 }))
          (inr (record { base = refl; caller = refl; made = inr (refl, refl); seen = ([], refl); mine = refl }, record { ticket = λ t. absurd (true≢false (sym t)); turn = λ t. absurd (true≢false (sym t)) }))

      olds_ : Each (λ i v. Every (FitsOld (history k.base.value ++ []) [] (first_view history k ∷ [])) v.olds) (first_view history k ∷ [])
      olds_ = one (λ i v. Every (FitsOld (history k.base.value ++ []) [] (first_view history k ∷ [])) v.olds) tt

      apart_ : Apart (first_view history k ∷ [])
      apart_ zero zero v u e f tv tu same = refl
      apart_ zero (suc j) v u e f tv tu same = absurd (some-ne-none u (sym f))
      apart_ (suc i) j v u e f tv tu same = absurd (some-ne-none v (sym e))

      lone : (i : ℕ) (v : View T) → get_elem? (first_view history k ∷ []) i ≡ some v → v.stage ≢ Entered
      lone i v e h = one (λ i v. v.stage ≢ Entered) (λ x. cc) i v e h
