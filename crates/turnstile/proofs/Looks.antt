-- A look keeps the turn rule, where it is the pass's turn and where it is not.
use Rattle.std.proofs.Common.{◌≡◌, ◌≢◌, ℕ, ◌≤◌, List, [], ◌∷◌, ◌++◌, length, drop, Option, Some, IfSome, MatchBool, Bool, true, refl, sym, ap, ◌∙◌, subst, ⊎_elim, inr, arith, append-nil, ne_eqb, eq-eqb, length-set}
use Rattle.std.specs.Prelude.{slice_index, slice_set}
use mathlib.Core.Option.{Option as Home, some, none}
use native.Mathlib.Decide.{ℕ_discrete}
use mathlib.Core.Logic.{dite}
use lib.ListN.{get_elem?}
use Rattle.std.specs.declared.snapshot.Snapshot.{Snapshot}
use Rattle.atomic_table.specs.Table.{State, Me, Act, keeps, takes, stepped, Valid, carried_after, Allows}
use Rattle.atomic_table.proofs.Lists.{set_here, set_again, one_turn}
use Rattle.voice_model.specs.declared.calls.Entry.{Entry}
use Rattle.turnstile.specs.Histories.{entries_of}
use Rattle.turnstile.specs.declared.view.Stage.TheVariants.{Waiting, Entered, Spent}
use Rattle.turnstile.specs.declared.view.View.{View}
use Rattle.turnstile.specs.declared.view.Start.{Start}
use Rattle.turnstile.specs.Turns.{wrapped, has_ticket, has_turn, is_spent, bit, Begins, with_turn, tickets, Each, Queues, Fits, Looked, OwnsAll, Rests, Kept}
use Rattle.turnstile.proofs.Views.{bit_small, at_same, at_get, each_set, apart_kept, sum_set, sum_below, olds_set, joined_set}
use Rattle.turnstile.proofs.Turning.{live, not_spent, first_only, drop_front}

module _ {T O : Type 0} (origin : T → O) (history : T → List Entry) (stands : T → Type 0) where
  -- the ticket of the view is the word
  in_turn : (k : Start T) (s : State (Option T) (View T)) (h : Kept origin history stands k s) (id : ℕ) (v : View T) → get_elem? s.views id ≡ some v → has_ticket v.stage ≡ true → Queues (history k.base.value ++ h.count.news) h.count.served h.count.drawn v → wrapped h.count.served ≡ wrapped v.ticket → h.count.served ≡ v.ticket
  in_turn k s h id v at tv q same =
      let r = q.ticket tv in
      let most : tickets s.views ≤ length s.views = sum_below (λ u. bit (has_ticket u.stage)) (λ u. bit_small (has_ticket u.stage)) s.views in
      one_turn h.count.served v.ticket 18446744073709551616 r.0 (let a = h.queue in let b = h.passes.0 in let c = h.passes.1 in let d = h.few in let l = r.1 in omega arith) same

  abbrev Took : View T → Me (Option T) (View T) → Type 0
  Took v r = (y : T) × (r ≡ (with_turn (history y) v, (0, Some y) ∷ [])) × stands y × Begins v.seen (history y) × IfSome v.base (λ b. (origin y ≡ origin b.value) × OwnsAll (history b.value) v (history y))

  takes_turn : (k : Start T) (id : ℕ) (v : View T) (s : State (Option T) (View T)) (h : Kept origin history stands k s) (at : get_elem? s.views id ≡ some v) (wait : v.stage ≡ Waiting) → v.ticket ≡ h.count.served
      → (w : View T) × (a : Act (Option T)) × Valid s.homes [] a × Kept origin history stands k (stepped s 1 (slice_index s.words 1) id [] w a)
      × Took v (w, carried_after [] a)
  takes_turn k id v s h at wait first =
      let n = h.count in
      let log : List Entry = history k.base.value ++ n.news in
      let alive : v.stage ≢ Spent = not_spent v Waiting wait refl in
      let mine = live k.base log n id v alive (h.views id v at) in
      let tv : has_ticket v.stage ≡ true = ap has_ticket wait in
      ⊎_elim
      (λ (x : (y : T) × (s.homes ≡ some (Some y) ∷ []) × Rests origin history stands k.base log y × Each (λ i v. v.stage ≢ Entered) s.views).
      let w : View T = with_turn (history x.0) v in
      let sum = sum_set (λ u. bit (has_ticket u.stage)) s.views id v w at in
      let before : bit (has_ticket v.stage) ≡ 1 = ap bit tv in (
        w,
        takes 0 (Some x.0),
        ap (λ (hs : List (Home (Option T))). get_elem? hs 0) x.1,
        record {
          count = n;
          few = h.few;
          doors = h.doors;
          words = ap (λ (ws : List ℕ). slice_set ws 1 (slice_index ws 1)) h.words;
          queue = (let q = h.queue in omega arith);
          passes = (length-set s.views id w ∙ h.passes.0, h.passes.1);
          joined = joined_set s.views id v w at refl (ap is_spent (sym wait)) h.joined;
          callers = h.callers;
          views = each_set (Fits k.base log n) s.views id w (λ j u _ e. h.views j u e)
              (inr (record { base = mine.0.base; caller = mine.0.caller; made = mine.0.made; seen = ([], sym x.2.0 ∙ sym (append-nil (history x.0))); mine = mine.0.mine }, record { ticket = λ _. mine.1.ticket tv; turn = λ _. (first, x.2.0) }));
          olds = olds_set log n.news s.views id v w at alive refl h.olds;
          apart = apart_kept s.views id v w at h.apart (λ _. (tv, refl));
          lies = inr (ap (λ (hs : List (Home (Option T))). slice_set hs 0 none) x.1, (id, w, set_here s.views id w (at_get s.views id v at).0, refl));
        },
        (x.0, refl, x.2.2, subst (Begins v.seen) (sym x.2.0) mine.0.seen, subst (λ (o : Option (Snapshot T)). IfSome o (λ b. (origin x.0 ≡ origin b.value) × OwnsAll (history b.value) v (history x.0))) (sym mine.0.base) (x.2.1, ((n.news, x.2.0), mine.0.mine ∙ ap (entries_of v.caller) (sym (ap (drop (length (history k.base.value))) x.2.0 ∙ drop_front (history k.base.value) n.news))))),
      ))
      (λ (x : (s.homes ≡ none ∷ []) × ((i : ℕ) × (v : View T) × (get_elem? s.views i ≡ some v) × (v.stage ≡ Entered))).
      let same = first_only origin history stands k s h id x.1.0 v x.1.1 at x.1.2 tv first (ap has_turn x.1.3) in
      absurd (let e : Waiting ≡ Entered = sym wait ∙ ap (λ (z : View T). z.stage) (at_same s.views id x.1.0 v x.1.1 at x.1.2 same) ∙ x.1.3 in cc))
      h.lies

  stays_waiting : (k : Start T) (id : ℕ) (v : View T) (s : State (Option T) (View T)) (h : Kept origin history stands k s) (at : get_elem? s.views id ≡ some v) → Kept origin history stands k (stepped s 1 (slice_index s.words 1) id [] v keeps)
  stays_waiting k id v s h at =
      subst (Kept origin history stands k)
      (λ i. record { words = sym (ap (λ (ws : List ℕ). slice_set ws 1 (slice_index ws 1)) h.words ∙ sym h.words) i; homes = s.homes; views = sym (set_again s.views id v at) i })
      h

  pub looks : (k : Start T) (slots id : ℕ) (v : View T) → v.stage ≡ Waiting → Allows (Kept origin history stands k) slots id (v, []) 1 (λ n. n) (Looked origin history stands (v, []))
  looks k slots id v wait s h len at lt =
      let n = h.count in
      let found : slice_index s.words 1 ≡ wrapped n.served = ap (λ (ws : List ℕ). slice_index ws 1) h.words in
      dite (ℕ_discrete (slice_index s.words 1) (wrapped v.ticket))
      (λ same.
      let alive : v.stage ≢ Spent = not_spent v Waiting wait refl in
      let mine = live k.base (history k.base.value ++ n.news) n id v alive (h.views id v at) in
      let r = takes_turn k id v s h at wait (sym (in_turn k s h id v at (ap has_ticket wait) mine.1 (sym found ∙ same))) in
      (r.0, r.1, r.2, r.3, subst (λ (b : Bool). MatchBool b (Took v (r.0, carried_after [] r.1)) (◌≡◌ {A = Me (Option T) (View T)} (r.0, carried_after [] r.1) (v, []))) (sym (eq-eqb _ _ same)) r.4))
      (λ other.
      (v, keeps, tt, stays_waiting k id v s h at, subst (λ (b : Bool). MatchBool b (Took v (v, [])) (◌≡◌ {A = Me (Option T) (View T)} (v, []) (v, []))) (sym (ne_eqb _ _ other)) refl))

  pub looks_as : (k : Start T) (slots id : ℕ) (m : Me (Option T) (View T)) → m.0.stage ≡ Waiting → m.1 ≡ [] → Allows (Kept origin history stands k) slots id m 1 (λ n. n) (Looked origin history stands m)
  looks_as k slots id m wait none_ = subst (λ (c : List (ℕ × Option T)). Allows (Kept origin history stands k) slots id (m.0, c) 1 (λ n. n) (Looked origin history stands (m.0, c))) (sym none_) (looks k slots id m.0 wait)
