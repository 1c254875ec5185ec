-- What the steps of the turn rule share.
use Rattle.std.proofs.Common.{◌≡◌, ◌≢◌, ℕ, ◌+◌, List, [], ◌∷◌, ◌++◌, length, set, drop, Option, Some, true, false, true≢false, refl, sym, ap, ◌∙◌, ⊎_elim, inl, inr}
use Rattle.std.proofs.Math.Nat.{add-mod-mod}
use mathlib.Core.Option.{Option as Home, some, none}
use native.Mathlib.Nat.{add_comm}
use lib.ListN.{get_elem?}
use Rattle.std.specs.declared.snapshot.Snapshot.{Snapshot}
use Rattle.atomic_table.specs.Table.{State}
use Rattle.atomic_table.proofs.Lists.{set_else}
use Rattle.voice_model.specs.declared.calls.Entry.{Entry}
use Rattle.turnstile.specs.declared.view.Stage.{Stage}
use Rattle.turnstile.specs.declared.view.Stage.TheVariants.{Outside, Waiting, Entered, Told, Spent}
use Rattle.turnstile.specs.declared.view.View.{View}
use Rattle.turnstile.specs.declared.view.Start.{Start}
use Rattle.turnstile.specs.Turns.{wrapped, has_ticket, has_turn, is_spent, spent_view, Each, Count, Knows, Queues, Fits, Rests, Lies, Kept}
use Rattle.turnstile.proofs.Views.{at_same, each_set}

pub wraps : (n k : ℕ) → wrapped (wrapped n + k) ≡ wrapped (n + k)
wraps n k = ap wrapped (add_comm (wrapped n) k) ∙ add-mod-mod k n 18446744073709551616 ∙ ap wrapped (add_comm k n)

pub drop_front : (xs ys : List Entry) → drop (length xs) (xs ++ ys) ≡ ys
drop_front [] ys = refl
drop_front (x ∷ xs) ys = drop_front xs ys

module _ {T : Type 0} where
  -- a view that is not spent has what a live one has
  pub live : (base : Snapshot T) (log : List Entry) (c : Count) (i : ℕ) (v : View T) → v.stage ≢ Spent → Fits base log c i v → Knows base log c.news c.passes i v × Queues log c.served c.drawn v
  live base log c i v apart f = ⊎_elim (λ (s : v ≡ spent_view). absurd (apart (ap (λ (z : View T). z.stage) s))) (λ (x : Knows base log c.news c.passes i v × Queues log c.served c.drawn v). x) f

  pub not_spent : (v : View T) (s : Stage) → v.stage ≡ s → is_spent s ≡ false → v.stage ≢ Spent
  not_spent v s e f g = absurd (true≢false (sym (ap is_spent (sym e ∙ g)) ∙ f))

module _ {T O : Type 0} (origin : T → O) (history : T → List Entry) (stands : T → Type 0) where
  -- the slot stays where it is
  pub lies_stays : (base : Snapshot T) (log : List Entry) (homes : List (Home (Option T))) (views : List (View T)) (id : ℕ) (v w : View T) → get_elem? views id ≡ some v → v.stage ≢ Entered → w.stage ≢ Entered → Lies origin history stands base log homes views → Lies origin history stands base log homes (set views id w)
  lies_stays base log homes views id v w at out new h =
      ⊎_elim
      (λ (x : (y : T) × (homes ≡ some (Some y) ∷ []) × Rests origin history stands base log y × Each (λ i v. v.stage ≢ Entered) views).
      inl (x.0, x.1, x.2, each_set (λ i v. v.stage ≢ Entered) views id w (λ j u _ e. x.3 j u e) new))
      (λ (x : (homes ≡ none ∷ []) × ((i : ℕ) × (v : View T) × (get_elem? views i ≡ some v) × (v.stage ≡ Entered))).
      inr (x.0, (x.1.0, x.1.1, set_else views id x.1.0 w (λ same. out (ap (λ (z : View T). z.stage) (at_same views id x.1.0 v x.1.1 at x.1.2 (sym same)) ∙ x.1.3)) ∙ x.1.2, x.1.3)))
      h

  -- the first in the queue has the only turn
  pub first_only : (k : Start T) (s : State (Option T) (View T)) (h : Kept origin history stands k s) (id j : ℕ) (v u : View T) → get_elem? s.views id ≡ some v → get_elem? s.views j ≡ some u → has_ticket v.stage ≡ true → v.ticket ≡ h.count.served → has_turn u.stage ≡ true → id ≡ j
  first_only k s h id j v u at e tv first tu =
      ⊎_elim
      (λ (x : u ≡ spent_view). absurd (true≢false (sym tu ∙ ap (λ (z : View T). has_turn z.stage) x)))
      (λ (x : Knows k.base (history k.base.value ++ h.count.news) h.count.news h.count.passes j u × Queues (history k.base.value ++ h.count.news) h.count.served h.count.drawn u).
      h.apart id j v u at e tv (turn_ticket u.stage tu) (first ∙ sym (x.1.turn tu).0))
      (h.views j u e)
    where
      turn_ticket : (s : Stage) → has_turn s ≡ true → has_ticket s ≡ true
      turn_ticket Outside t = t
      turn_ticket Waiting t = refl
      turn_ticket Entered t = refl
      turn_ticket Told t = refl
      turn_ticket Spent t = t

  -- no other view has the turn
  pub no_other : (k : Start T) (s : State (Option T) (View T)) (h : Kept origin history stands k s) (id j : ℕ) (v u : View T) → get_elem? s.views id ≡ some v → get_elem? s.views j ≡ some u → has_ticket v.stage ≡ true → v.ticket ≡ h.count.served → j ≢ id → has_turn u.stage ≢ true
  no_other k s h id j v u at e tv first other tu = other (sym (first_only k s h id j v u at e tv first tu))
