-- Views after one of them changed.
use Rattle.std.proofs.Common.{◌≡◌, ◌≢◌, ℕ, zero, suc, ◌+◌, ◌<◌, ◌≤◌, List, [], ◌∷◌, ◌++◌, length, set, get_or, Bool, true, false, refl, sym, ap, ◌∙◌, subst, ⊎_elim, inl, inr, arith, sum_by, append_assoc, cond, ◌==◌, ne_eqb}
use Rattle.std.proofs.lemmas.List.Sums.{sum_by-set, sum_by-cons}
use mathlib.Core.Option.{some, some-ne-none, some-injective}
use native.Mathlib.Decide.{ℕ_discrete}
use mathlib.Core.Logic.{dite}
use lib.ListN.{get_elem?}
use Rattle.atomic_table.proofs.Lists.{at_set, set_else}
use Rattle.voice_model.specs.declared.calls.Entry.{Entry}
use Rattle.turnstile.specs.Histories.{entries_of, IsLanded}
use Rattle.turnstile.specs.declared.view.Stage.TheVariants.{Spent}
use Rattle.turnstile.specs.declared.view.Old.{Old}
use Rattle.turnstile.specs.declared.view.View.{View}
use Rattle.turnstile.specs.Turns.{has_ticket, is_spent, bit, Begins, Every, IsOfPasses, IsOneTurn, spent_view, spents, olds_of, Each, Apart, FitsOld}

pub every_weaker : {X : Type 0} (P Q : X → Type 0) (xs : List X) → ((x : X) → P x → Q x) → Every P xs → Every Q xs
every_weaker P Q [] f h = tt
every_weaker P Q (x ∷ xs) f h = (f x h.0, every_weaker P Q xs f h.1)

pub every_append : {X : Type 0} (P : X → Type 0) (xs ys : List X) → Every P xs → Every P ys → Every P (xs ++ ys)
every_append P [] ys h k = k
every_append P (x ∷ xs) ys h k = (h.0, every_append P xs ys h.1 k)

pub bit_small : (b : Bool) → bit b ≤ 1
bit_small true = omega arith
bit_small false = omega arith

module _ {T : Type 0} where
  pub at_one : (views : List (View T)) (i : ℕ) (v u : View T) → get_elem? views i ≡ some v → get_elem? views i ≡ some u → v ≡ u
  at_one views i v u e f = some-injective v u (sym e ∙ f)

  pub at_same : (views : List (View T)) (i j : ℕ) (v u : View T) → get_elem? views i ≡ some v → get_elem? views j ≡ some u → i ≡ j → v ≡ u
  at_same views i j v u e f same = at_one views j v u (subst (λ n. get_elem? views n ≡ some v) same e) f

  pub at_get : (views : List (View T)) (i : ℕ) (v : View T) → get_elem? views i ≡ some v → (i < length views) × (get_or views i v ≡ v)
  at_get [] i v e = absurd (some-ne-none v (sym e))
  at_get (x ∷ xs) zero v e = (omega arith, some-injective x v e)
  at_get (x ∷ xs) (suc i) v e = let r = at_get xs i v e in (omega arith, r.1)

  pub each_set : (P : ℕ → View T → Type 0) (views : List (View T)) (id : ℕ) (w : View T) → ((j : ℕ) (u : View T) → j ≢ id → get_elem? views j ≡ some u → P j u) → P id w → Each P (set views id w)
  each_set P views id w others mine j u e =
      ⊎_elim
      (λ (x : (j ≡ id) × (w ≡ u)). subst (λ (y : ℕ × View T). P y.0 y.1) (λ i. (sym x.0 i, x.1 i)) mine)
      (λ (x : (j ≢ id) × (get_elem? views j ≡ some u)). others j u x.0 x.1)
      (at_set views id j w u e)

  pub apart_set : (views : List (View T)) (id : ℕ) (w : View T) → Apart views → ((j : ℕ) (u : View T) → j ≢ id → get_elem? views j ≡ some u → has_ticket w.stage ≡ true → has_ticket u.stage ≡ true → w.ticket ≢ u.ticket) → Apart (set views id w)
  apart_set views id w apart new i j v u e f tv tu same =
      ⊎_elim
      (λ (x : (i ≡ id) × (w ≡ v)).
      ⊎_elim
      (λ (y : (j ≡ id) × (w ≡ u)). x.0 ∙ sym y.0)
      (λ (y : (j ≢ id) × (get_elem? views j ≡ some u)). absurd (new j u y.0 y.1 (ap (λ (z : View T). has_ticket z.stage) x.1 ∙ tv) tu (ap (λ (z : View T). z.ticket) x.1 ∙ same)))
      (at_set views id j w u f))
      (λ (x : (i ≢ id) × (get_elem? views i ≡ some v)).
      ⊎_elim
      (λ (y : (j ≡ id) × (w ≡ u)). absurd (new i v x.0 x.1 (ap (λ (z : View T). has_ticket z.stage) y.1 ∙ tu) tv (ap (λ (z : View T). z.ticket) y.1 ∙ sym same)))
      (λ (y : (j ≢ id) × (get_elem? views j ≡ some u)). apart i j v u x.1 y.1 tv tu same)
      (at_set views id j w u f))
      (at_set views id i w v e)

  -- the ticket stays, or there is none
  pub apart_kept : (views : List (View T)) (id : ℕ) (v w : View T) → get_elem? views id ≡ some v → Apart views → (has_ticket w.stage ≡ true → (has_ticket v.stage ≡ true) × (w.ticket ≡ v.ticket)) → Apart (set views id w)
  apart_kept views id v w at apart same =
      apart_set views id w apart (λ j u other e tw tu equal. let s = same tw in other (sym (apart id j v u at e s.0 tu (sym s.1 ∙ equal))))

  pub sum_set : (f : View T → ℕ) (views : List (View T)) (i : ℕ) (v w : View T) → get_elem? views i ≡ some v → sum_by f (set views i w) + f v ≡ sum_by f views + f w
  sum_set f views i v w e = let g = at_get views i v e in subst (λ (x : View T). sum_by f (set views i w) + f x ≡ sum_by f views + f w) g.1 (sum_by-set f views i w v g.0)

  pub sum_below : (f : View T → ℕ) → ((v : View T) → f v ≤ 1) → (views : List (View T)) → sum_by f views ≤ length views
  sum_below f h [] = omega arith
  sum_below f h (v ∷ vs) = let a = h v in let b = sum_below f h vs in omega (arith, sum_by-cons f v vs)

  -- a view that was spent is
  pub spent_stays : (views : List (View T)) (id j : ℕ) (v w : View T) → get_elem? views id ≡ some v → v.stage ≢ Spent → get_elem? views j ≡ some spent_view → get_elem? (set views id w) j ≡ some spent_view
  spent_stays views id j v w at live e =
      dite (ℕ_discrete j id)
      (λ same. absurd (live (ap (λ (z : View T). z.stage) (at_same views id j v spent_view at e (sym same)))))
      (λ apart. set_else views id j w apart ∙ e)

  pub olds_stay : (log news : List Entry) (views : List (View T)) (id : ℕ) (v w : View T) (xs : List Old) → get_elem? views id ≡ some v → v.stage ≢ Spent → Every (FitsOld log news views) xs → Every (FitsOld log news (set views id w)) xs
  olds_stay log news views id v w xs at live h =
      every_weaker (FitsOld log news views) (FitsOld log news (set views id w)) xs (λ o f. record { seen = f.seen; mine = f.mine; spent = (f.spent.0, f.spent.1, spent_stays views id f.spent.0 v w at live f.spent.2) }) h

  -- where the changed view has the olds that it had
  pub olds_set : (log news : List Entry) (views : List (View T)) (id : ℕ) (v w : View T) → get_elem? views id ≡ some v → v.stage ≢ Spent → w.olds ≡ v.olds → Each (λ i u. Every (FitsOld log news views) u.olds) views → Each (λ i u. Every (FitsOld log news (set views id w)) u.olds) (set views id w)
  olds_set log news views id v w at live same h =
      each_set (λ i u. Every (FitsOld log news (set views id w)) u.olds) views id w
      (λ j u _ e. olds_stay log news views id v w u.olds at live (h j u e))
      (subst (λ (xs : List Old). Every (FitsOld log news (set views id w)) xs) (sym same) (olds_stay log news views id v w v.olds at live (h id v at)))

  pub joined_set : (views : List (View T)) (id : ℕ) (v w : View T) → get_elem? views id ≡ some v → w.olds ≡ v.olds → is_spent w.stage ≡ is_spent v.stage → olds_of views ≡ spents views → olds_of (set views id w) ≡ spents (set views id w)
  joined_set views id v w at same also h =
      let a = sum_set (λ u. length u.olds) views id v w at in
      let b = sum_set (λ u. bit (is_spent u.stage)) views id v w at in
      let c : length w.olds ≡ length v.olds = ap length same in
      let d : bit (is_spent w.stage) ≡ bit (is_spent v.stage) = ap bit also in
      omega arith

pub begins_more : (xs ys zs : List Entry) → Begins xs ys → Begins xs (ys ++ zs)
begins_more xs ys zs b = (b.0 ++ zs, ap (λ l. l ++ zs) b.1 ∙ append_assoc xs b.0 zs)

cond_append : (b : Bool) (x : Entry) (xs ys : List Entry) → cond b (x ∷ (xs ++ ys)) (xs ++ ys) ≡ cond b (x ∷ xs) xs ++ ys
cond_append true x xs ys = refl
cond_append false x xs ys = refl

pub entries_append : (by : ℕ) (xs ys : List Entry) → entries_of by (xs ++ ys) ≡ entries_of by xs ++ entries_of by ys
entries_append by [] ys = refl
entries_append by (x ∷ xs) ys = ap (λ (l : List Entry). cond (x.caller == by) (x ∷ l) l) (entries_append by xs ys) ∙ cond_append (x.caller == by) x (entries_of by xs) (entries_of by ys)

pub entries_other : (by : ℕ) (e : Entry) (es : List Entry) → e.caller ≢ by → entries_of by (e ∷ es) ≡ entries_of by es
entries_other by e es other = ap (λ b. cond b (e ∷ entries_of by es) (entries_of by es)) (ne_eqb e.caller by other)

-- one turn of a caller adds no entry of another caller
pub one_turn_of : (by other : ℕ) (es : List Entry) → 0 < other → other ≢ by → IsOneTurn by es → entries_of other es ≡ []
one_turn_of by other [] pos apart h = refl
one_turn_of by other (e ∷ []) pos apart h =
    entries_other other e [] (λ is. ⊎_elim (λ (l : IsLanded e). let z : e.caller ≡ 0 = l.0 in omega arith) (λ (m : e.caller ≡ by). apart (sym is ∙ m)) h)
one_turn_of by other (e ∷ d ∷ []) pos apart h =
    entries_other other e (d ∷ []) (λ is. let z : e.caller ≡ 0 = h.0.0 in omega arith) ∙ entries_other other d [] (λ is. apart (sym is ∙ h.1))
one_turn_of by other (e ∷ d ∷ c ∷ es) pos apart h = absurd h

-- its entries are of the passes
pub one_turn_made : (by passes : ℕ) (es : List Entry) → 0 < by → by ≤ passes → IsOneTurn by es → Every (IsOfPasses passes) es
one_turn_made by passes [] pos le h = tt
one_turn_made by passes (e ∷ []) pos le h = (⊎_elim (λ (l : IsLanded e). inl l) (λ (m : e.caller ≡ by). inr (omega arith, omega arith)) h, tt)
one_turn_made by passes (e ∷ d ∷ []) pos le h = let m : d.caller ≡ by = h.1 in (inl h.0, (inr (omega arith, omega arith), tt))
one_turn_made by passes (e ∷ d ∷ c ∷ es) pos le h = absurd h

-- no entry is a later caller's
pub none_yet : (passes by : ℕ) (es : List Entry) → passes < by → Every (IsOfPasses passes) es → entries_of by es ≡ []
none_yet passes by [] lt h = refl
none_yet passes by (e ∷ es) lt h =
    entries_other by e es (λ is. ⊎_elim (λ (l : IsLanded e). let z : e.caller ≡ 0 = l.0 in omega arith) (λ (m : (0 < e.caller) × (e.caller ≤ passes)). let z : e.caller ≤ passes = m.1 in omega arith) h.0) ∙ none_yet passes by es lt h.1
