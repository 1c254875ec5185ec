-- A draw keeps the turn rule.
use Rattle.std.proofs.Common.{◌≡◌, ◌≢◌, ℕ, suc, ◌+◌, ◌%◌, ◌≤◌, List, ◌∷◌, ◌++◌, length, Option, true≢false, refl, sym, ap, ◌∙◌, ⊎_elim, inl, inr, arith, length-set}
use Rattle.std.specs.Prelude.{slice_index, slice_set}
use Rattle.atomic_table.specs.Table.{Me, keeps, Allows}
use Rattle.voice_model.specs.declared.calls.Entry.{Entry}
use Rattle.turnstile.specs.declared.view.Stage.TheVariants.{Outside, Spent}
use Rattle.turnstile.specs.declared.view.View.{View}
use Rattle.turnstile.specs.declared.view.Start.{Start}
use Rattle.turnstile.specs.Turns.{wrapped, has_ticket, is_spent, bit, spent_view, with_ticket, Drawn, Count, Knows, Queues, Fits, Kept}
use Rattle.turnstile.proofs.Views.{each_set, apart_set, sum_set, olds_set, joined_set}
use Rattle.turnstile.proofs.Turning.{wraps, live, not_spent, lies_stays}

module _ {T O : Type 0} (origin : T → O) (history : T → List Entry) (stands : T → Type 0) where
  pub draws : (k : Start T) (slots id : ℕ) (v : View T) (c : List (ℕ × Option T)) → v.stage ≡ Outside → Allows (Kept origin history stands k) slots id (v, c) 0 (λ n. (n + 1) % 18446744073709551616) (Drawn (v, c))
  draws k slots id v c out s h len at lt =
      let n = h.count in
      let log : List Entry = history k.base.value ++ n.news in
      let w : View T = with_ticket n.drawn v in
      let n' : Count = record { news = n.news; served = n.served; drawn = suc n.drawn; passes = n.passes } in
      let alive : v.stage ≢ Spent = not_spent v Outside out refl in
      let mine = live k.base log n id v alive (h.views id v at) in
      let sum = sum_set (λ u. bit (has_ticket u.stage)) s.views id v w at in
      let before : bit (has_ticket v.stage) ≡ 0 = ap (λ z. bit (has_ticket z)) out in
      let few : n.served ≤ n.drawn = omega (arith, h.queue) in (
        w,
        keeps,
        tt,
        record {
          count = n';
          few = h.few;
          doors = h.doors;
          words = ap (λ (ws : List ℕ). slice_set ws 0 ((slice_index ws 0 + 1) % 18446744073709551616)) h.words ∙ ap (λ (x : ℕ). x ∷ wrapped n.served ∷ wrapped (length n.news) ∷ h.doors) (wraps n.drawn 1 ∙ ap wrapped (let e : n.drawn + 1 ≡ suc n.drawn = omega arith in e));
          queue = (let q = h.queue in omega arith);
          passes = (length-set s.views id w ∙ h.passes.0, h.passes.1);
          joined = joined_set s.views id v w at refl (ap is_spent (sym out)) h.joined;
          callers = h.callers;
          views = each_set (Fits k.base log n') s.views id w
              (λ j u _ e. ⊎_elim (λ (x : u ≡ spent_view). inl x) (λ (x : Knows k.base log n.news n.passes j u × Queues log n.served n.drawn u). inr (x.0, record { ticket = λ t. let r = x.1.ticket t in (r.0, omega arith); turn = x.1.turn })) (h.views j u e))
              (inr (record { base = mine.0.base; caller = mine.0.caller; made = mine.0.made; seen = mine.0.seen; mine = mine.0.mine }, record { ticket = λ _. (few, omega arith); turn = λ t. absurd (true≢false (sym t)) }));
          olds = olds_set log n.news s.views id v w at alive refl h.olds;
          apart = apart_set s.views id w h.apart
              (λ j u other e _ tu same. ⊎_elim (λ (x : u ≡ spent_view). absurd (true≢false (sym tu ∙ ap (λ (z : View T). has_ticket z.stage) x))) (λ (x : Knows k.base log n.news n.passes j u × Queues log n.served n.drawn u). let r = x.1.ticket tu in omega arith) (h.views j u e));
          lies = lies_stays origin history stands k.base log s.homes s.views id v w at (λ e. absurd (cc)) (λ e. absurd (cc)) h.lies;
        },
        (n.drawn, ap (λ (ws : List ℕ). slice_index ws 0) h.words, refl),
      )

  -- the steps, at a seat's view and slots
  pub draws_as : (k : Start T) (slots id : ℕ) (m : Me (Option T) (View T)) → m.0.stage ≡ Outside → Allows (Kept origin history stands k) slots id m 0 (λ n. (n + 1) % 18446744073709551616) (Drawn m)
  draws_as k slots id m out = draws k slots id m.0 m.1 out
