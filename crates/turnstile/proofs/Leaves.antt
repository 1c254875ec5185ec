-- A leave keeps the turn rule.
use Rattle.std.proofs.Common.{◌≡◌, ◌≢◌, ℕ, suc, ◌+◌, ◌%◌, ◌≤◌, List, [], ◌∷◌, ◌++◌, length, Option, true, true≢false, refl, sym, ap, ◌∙◌, subst, ⊎_elim, inl, inr, arith, length-set}
use Rattle.std.specs.Prelude.{slice_index, slice_set}
use Rattle.atomic_table.specs.Table.{Me, keeps, Allows}
use Rattle.voice_model.specs.declared.calls.Entry.{Entry}
use Rattle.turnstile.specs.declared.view.Stage.TheVariants.{Told, Spent}
use Rattle.turnstile.specs.declared.view.View.{View}
use Rattle.turnstile.specs.declared.view.Start.{Start}
use Rattle.turnstile.specs.Turns.{wrapped, has_ticket, has_turn, is_spent, bit, spent_view, with_none, Leaves, Count, Knows, Queues, Fits, Kept}
use Rattle.turnstile.proofs.Views.{each_set, apart_kept, sum_set, olds_set, joined_set}
use Rattle.turnstile.proofs.Turning.{wraps, live, not_spent, lies_stays, no_other}

module _ {T O : Type 0} (origin : T → O) (history : T → List Entry) (stands : T → Type 0) where
  pub leaves : (k : Start T) (slots id : ℕ) (v : View T) → v.stage ≡ Told → Allows (Kept origin history stands k) slots id (v, []) 1 (λ n. (n + 1) % 18446744073709551616) (λ _. Leaves (v, []))
  leaves k slots id v told s h len at lt =
      let n = h.count in
      let log : List Entry = history k.base.value ++ n.news in
      let w : View T = with_none v in
      let n' : Count = record { news = n.news; served = suc n.served; drawn = n.drawn; passes = n.passes } in
      let alive : v.stage ≢ Spent = not_spent v Told told refl in
      let mine = live k.base log n id v alive (h.views id v at) in
      let tv : has_ticket v.stage ≡ true = ap has_ticket told in
      let first = mine.1.turn (ap has_turn told) in
      let sum = sum_set (λ u. bit (has_ticket u.stage)) s.views id v w at in
      let before : bit (has_ticket v.stage) ≡ 1 = ap bit tv in (
        w,
        keeps,
        tt,
        record {
          count = n';
          few = h.few;
          doors = h.doors;
          words = ap (λ (ws : List ℕ). slice_set ws 1 ((slice_index ws 1 + 1) % 18446744073709551616)) h.words
              ∙ ap (λ (x : ℕ). wrapped n.drawn ∷ x ∷ wrapped (length n.news) ∷ h.doors) (wraps n.served 1 ∙ ap wrapped (let e : n.served + 1 ≡ suc n.served = omega arith in e));
          queue = (let q = h.queue in omega arith);
          passes = (length-set s.views id w ∙ h.passes.0, h.passes.1);
          joined = joined_set s.views id v w at refl (ap is_spent (sym told)) h.joined;
          callers = h.callers;
          views = each_set (Fits k.base log n') s.views id w
              (λ j u other e.
              ⊎_elim (λ (x : u ≡ spent_view). inl x)
              (λ (x : Knows k.base log n.news n.passes j u × Queues log n.served n.drawn u). inr (
                x.0,
                record {
                  ticket = λ tu. let r = x.1.ticket tu in (above n.served u.ticket r.0 (λ same. other (sym (h.apart id j v u at e tv tu (first.0 ∙ same)))), r.1);
                  turn = λ tu. absurd (no_other origin history stands k s h id j v u at e tv first.0 other tu);
                },
              ))
              (h.views j u e))
              (inr (record { base = mine.0.base; caller = mine.0.caller; made = mine.0.made; seen = mine.0.seen; mine = mine.0.mine }, record { ticket = λ t. absurd (true≢false (sym t)); turn = λ t. absurd (true≢false (sym t)) }));
          olds = olds_set log n.news s.views id v w at alive refl h.olds;
          apart = apart_kept s.views id v w at h.apart (λ t. absurd (true≢false (sym t)));
          lies = lies_stays origin history stands k.base log s.homes s.views id v w at (λ e. absurd (cc)) (λ e. absurd (cc)) h.lies;
        },
        refl,
      )
    where
      above : (a b : ℕ) → a ≤ b → a ≢ b → suc a ≤ b
      above a b le ne = omega arith

  pub leaves_as : (k : Start T) (slots id : ℕ) (m : Me (Option T) (View T)) → m.0.stage ≡ Told → m.1 ≡ [] → Allows (Kept origin history stands k) slots id m 1 (λ n. (n + 1) % 18446744073709551616) (λ _. Leaves m)
  leaves_as k slots id m told none_ = subst (λ (c : List (ℕ × Option T)). Allows (Kept origin history stands k) slots id (m.0, c) 1 (λ n. (n + 1) % 18446744073709551616) (λ _. Leaves (m.0, c))) (sym none_) (leaves k slots id m.0 told)
