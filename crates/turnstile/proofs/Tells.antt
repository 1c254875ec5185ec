-- A tell keeps the turn rule.
use Rattle.std.proofs.Common.{◌≡◌, ◌≢◌, ℕ, suc, ◌+◌, ◌%◌, ◌<◌, List, [], ◌∷◌, ◌++◌, length, set, drop, Option, Some, None, true, refl, sym, ap, ◌∙◌, subst, ⊎_elim, inl, inr, arith, append_assoc, append-nil, length-append, length-set}
use Rattle.std.specs.Prelude.{slice_index, slice_set}
use mathlib.Core.Option.{Option as Home, some, none}
use lib.ListN.{get_elem?}
use Rattle.std.specs.declared.snapshot.Snapshot.{Snapshot}
use Rattle.atomic_table.specs.Table.{Me, gives, Allows}
use Rattle.voice_model.specs.declared.calls.Entry.{Entry}
use Rattle.turnstile.specs.Histories.{entries_of}
use Rattle.turnstile.specs.declared.view.Stage.TheVariants.{Entered, Spent}
use Rattle.turnstile.specs.declared.view.View.{View}
use Rattle.turnstile.specs.declared.view.Start.{Start}
use Rattle.turnstile.specs.Turns.{wrapped, has_ticket, has_turn, is_spent, bit, Begins, Every, IsOfPasses, IsOneTurn, spent_view, with_told, Tells, Each, Count, FitsOld, Knows, Queues, Fits, Rests, Lies, Kept}
use Rattle.turnstile.proofs.Views.{every_weaker, every_append, at_same, at_get, each_set, apart_kept, sum_set, spent_stays, joined_set, begins_more, entries_append, one_turn_of, one_turn_made}
use Rattle.turnstile.proofs.Turning.{wraps, drop_front, live, not_spent, no_other}

module _ {T O : Type 0} (origin : T → O) (history : T → List Entry) (stands : T → Type 0) where
  given_back : (homes : List (Home (Option T))) (base : Snapshot T) (log : List Entry) (views : List (View T)) (y : T) → Lies origin history stands base log homes views → slice_set homes 0 (some (Some y)) ≡ some (Some y) ∷ []
  given_back homes base log views y h =
      ⊎_elim
      (λ (x : (y : T) × (homes ≡ some (Some y) ∷ []) × Rests origin history stands base log y × Each (λ i v. v.stage ≢ Entered) views). ap (λ (hs : List (Home (Option T))). slice_set hs 0 (some (Some y))) x.1)
      (λ (x : (homes ≡ none ∷ []) × ((i : ℕ) × (v : View T) × (get_elem? views i ≡ some v) × (v.stage ≡ Entered))). ap (λ (hs : List (Home (Option T))). slice_set hs 0 (some (Some y))) x.0)
      h

  abbrev slot_of : T → List (ℕ × Option T) → T
  slot_of d [] = d
  slot_of d (x ∷ xs) = elim x.1 as (λ _. T) [ Some y ↦ y | None ↦ d ]

  pub tells : (k : Start T) (slots id : ℕ) (v : View T) (y : T) (new : List Entry) (entries : ℕ) → v.stage ≡ Entered → stands y → (v.base ≡ Some k.base → origin y ≡ origin k.base.value) → history y ≡ v.seen ++ new → length new ≡ entries → IsOneTurn v.caller new
      → Allows (Kept origin history stands k) slots id (v, (0, Some y) ∷ []) 2 (λ n. (n + entries) % 18446744073709551616) (λ _. Tells history (v, (0, Some y) ∷ []))
  tells k slots id v y new entries inside good whose more count turn s h len at lt =
      let n = h.count in
      let news' : List Entry = n.news ++ new in
      let log : List Entry = history k.base.value ++ n.news in
      let log' : List Entry = history k.base.value ++ news' in
      let n' : Count = record { news = news'; served = n.served; drawn = n.drawn; passes = n.passes } in
      let alive : v.stage ≢ Spent = not_spent v Entered inside refl in
      let mine = live k.base log n id v alive (h.views id v at) in
      let tv : has_ticket v.stage ≡ true = ap has_ticket inside in
      let first = mine.1.turn (ap has_turn inside) in
      let w : View T = with_told (history y) v in
      let grown : log' ≡ log ++ new = sym (append_assoc (history k.base.value) n.news new) in
      let ends : history y ≡ log' = more ∙ ap (λ l. l ++ new) first.1 ∙ sym grown in
      let begins : (xs : List Entry) → Begins xs log → Begins xs log' = λ xs b. subst (Begins xs) (sym grown) (begins_more xs log new b) in
      let sum = sum_set (λ u. bit (has_ticket u.stage)) s.views id v w at in
      let before : bit (has_ticket v.stage) ≡ 1 = ap bit tv in
      let below : id < length s.views = (at_get s.views id v at).0 in
      let others : (by : ℕ) → 0 < by → by ≢ v.caller → entries_of by n.news ≡ entries_of by news' = λ by pos apart. sym (entries_append by n.news new ∙ ap (λ l. entries_of by n.news ++ l) (one_turn_of v.caller by new pos apart turn) ∙ append-nil (entries_of by n.news)) in
      let olds' : (j : ℕ) (u : View T) → get_elem? s.views j ≡ some u → Every (FitsOld log' news' (set s.views id w)) u.olds = λ j u e.
      every_weaker (FitsOld log n.news s.views) (FitsOld log' news' (set s.views id w)) u.olds
      (λ o f. record {
        seen = begins o.seen f.seen;
        mine = f.mine ∙ others o.caller (let c = f.spent.1 in omega arith)
            (λ same. alive (ap (λ (z : View T). z.stage) (at_same s.views id f.spent.0 v spent_view at f.spent.2 (let c : o.caller ≡ suc f.spent.0 = f.spent.1 in let d : v.caller ≡ suc id = mine.0.caller in omega arith))));
        spent = (f.spent.0, f.spent.1, spent_stays s.views id f.spent.0 v w at alive f.spent.2);
      })
      (h.olds j u e) in (
        w,
        gives,
        tt,
        record {
          count = n';
          few = h.few;
          doors = h.doors;
          words = ap (λ (ws : List ℕ). slice_set ws 2 ((slice_index ws 2 + entries) % 18446744073709551616)) h.words
              ∙ ap (λ (x : ℕ). wrapped n.drawn ∷ wrapped n.served ∷ x ∷ h.doors) (wraps (length n.news) entries ∙ ap wrapped (ap (λ x. length n.news + x) (sym count) ∙ sym (length-append n.news new)));
          queue = (let q = h.queue in omega arith);
          passes = (length-set s.views id w ∙ h.passes.0, h.passes.1);
          joined = joined_set s.views id v w at refl (ap is_spent (sym inside)) h.joined;
          callers = every_append (IsOfPasses n.passes) n.news new h.callers (one_turn_made v.caller n.passes new (let c = mine.0.caller in omega arith) (let c = mine.0.caller in let d = h.passes.0 in omega arith) turn);
          views = each_set (Fits k.base log' n') s.views id w
              (λ j u other e.
              ⊎_elim (λ (x : u ≡ spent_view). inl x)
              (λ (x : Knows k.base log n.news n.passes j u × Queues log n.served n.drawn u). inr (
                record {
                  base = x.0.base;
                  caller = x.0.caller;
                  made = x.0.made;
                  seen = begins u.seen x.0.seen;
                  mine = x.0.mine ∙ others u.caller (let c = x.0.caller in omega arith) (λ same. other (let c = x.0.caller in let d = mine.0.caller in omega arith));
                },
                record { ticket = x.1.ticket; turn = λ tu. absurd (no_other origin history stands k s h id j v u at e tv first.0 other tu) },
              ))
              (h.views j u e))
              (inr (
                record {
                  base = mine.0.base;
                  caller = mine.0.caller;
                  made = mine.0.made;
                  seen = ([], sym ends ∙ sym (append-nil (history y)));
                  mine = ap (λ l. l ++ entries_of v.caller (drop (length v.seen) (history y))) mine.0.mine
                      ∙ ap (λ l. entries_of v.caller n.news ++ entries_of v.caller l) (ap (λ l. drop (length v.seen) l) more ∙ drop_front v.seen new)
                      ∙ sym (entries_append v.caller n.news new);
                },
                record { ticket = λ _. mine.1.ticket tv; turn = λ _. (first.0, ends) },
              ));
          olds = each_set (λ i u. Every (FitsOld log' news' (set s.views id w)) u.olds) s.views id w (λ j u _ e. olds' j u e) (olds' id v at);
          apart = apart_kept s.views id v w at h.apart (λ _. (tv, refl));
          lies = inl (
            y,
            given_back s.homes k.base log s.views y h.lies,
            (ends, whose mine.0.base, good),
            each_set (λ i u. u.stage ≢ Entered) s.views id w (λ j u other e in_. no_other origin history stands k s h id j v u at e tv first.0 other (ap has_turn in_)) (λ e. cc),
          );
        },
        (λ z same. let eq : y ≡ z = ap (slot_of y) same in λ i. (with_told (history (eq i)) v, [])),
      )

  pub tells_as : (k : Start T) (slots id : ℕ) (m : Me (Option T) (View T)) (y : T) (new : List Entry) (entries : ℕ) → m.0.stage ≡ Entered → m.1 ≡ (0, Some y) ∷ [] → stands y → origin y ≡ origin k.base.value → history y ≡ m.0.seen ++ new → length new ≡ entries → IsOneTurn m.0.caller new
      → Allows (Kept origin history stands k) slots id m 2 (λ n. (n + entries) % 18446744073709551616) (λ _. Tells history m)
  tells_as k slots id m y new entries inside has good whose more count turn = subst (λ (c : List (ℕ × Option T)). Allows (Kept origin history stands k) slots id (m.0, c) 2 (λ n. (n + entries) % 18446744073709551616) (λ _. Tells history (m.0, c))) (sym has) (tells k slots id m.0 y new entries inside good (λ _. whose) more count turn)
