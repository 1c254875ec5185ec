-- A join keeps the turn rule.
use Rattle.std.proofs.Common.{◌≡◌, ◌≢◌, ℕ, ◌+◌, List, ◌++◌, length, set, true≢false, refl, sym, ap, ◌∙◌, inl, inr, arith, length-append, length-set}
use mathlib.Core.Option.{some}
use lib.ListN.{get_elem?}
use Rattle.atomic_table.specs.Table.{Joins}
use Rattle.atomic_table.proofs.Lists.{set_here, set_else}
use Rattle.voice_model.specs.declared.calls.Entry.{Entry}
use Rattle.turnstile.specs.declared.view.Stage.TheVariants.{Outside, Entered, Spent}
use Rattle.turnstile.specs.declared.view.Old.{Old}
use Rattle.turnstile.specs.declared.view.View.{View}
use Rattle.turnstile.specs.declared.view.Start.{Start}
use Rattle.turnstile.specs.Turns.{has_ticket, is_spent, bit, Every, spent_view, met, FitsOld, Fits, Kept}
use Rattle.turnstile.proofs.Views.{every_append, at_get, each_set, apart_kept, sum_set, olds_stay}
use Rattle.turnstile.proofs.Turning.{live, not_spent, lies_stays}

module _ {T O : Type 0} (origin : T → O) (history : T → List Entry) (stands : T → Type 0) where
  pub joins : (k : Start T) (id : ℕ) (v : View T) (other : ℕ) (w : View T) → v.stage ≡ Outside → w.stage ≡ Outside → Joins (Kept origin history stands k) id v other w (met v w) spent_view
  joins k id v other w out also s h at apart there' =
      let n = h.count in
      let log : List Entry = history k.base.value ++ n.news in
      let b : View T = met v w in
      let mid : List (View T) = set s.views id b in
      let end : List (View T) = set mid other spent_view in
      let there : get_elem? s.views other ≡ some w = sym (set_else s.views id other b apart) ∙ there' in
      let alive : v.stage ≢ Spent = not_spent v Outside out refl in
      let alive' : w.stage ≢ Spent = not_spent w Outside also refl in
      let mine = live k.base log n id v alive (h.views id v at) in
      let theirs = live k.base log n other w alive' (h.views other w there) in
      let stay : (xs : List Old) → Every (FitsOld log n.news s.views) xs → Every (FitsOld log n.news end) xs = λ xs g. olds_stay log n.news mid other w spent_view xs there' alive' (olds_stay log n.news s.views id v b xs at alive g) in
      let t1 = sum_set (λ u. bit (has_ticket u.stage)) s.views id v b at in
      let t2 = sum_set (λ u. bit (has_ticket u.stage)) mid other w spent_view there' in
      let d1 = sum_set (λ u. length u.olds) s.views id v b at in
      let d2 = sum_set (λ u. length u.olds) mid other w spent_view there' in
      let e1 = sum_set (λ u. bit (is_spent u.stage)) s.views id v b at in
      let e2 = sum_set (λ u. bit (is_spent u.stage)) mid other w spent_view there' in
      let f1 : bit (is_spent w.stage) ≡ 0 = ap (λ z. bit (is_spent z)) also in
      let f2 : bit (has_ticket w.stage) ≡ 0 = ap (λ z. bit (has_ticket z)) also in
      record {
        count = n;
        few = h.few;
        doors = h.doors;
        words = h.words;
        queue = (let q = h.queue in omega arith);
        passes = (length-set mid other spent_view ∙ length-set s.views id b ∙ h.passes.0, h.passes.1);
        joined = (let q = h.joined in let g : length (w.olds ++ v.olds) ≡ length w.olds + length v.olds = length-append w.olds v.olds in omega arith);
        callers = h.callers;
        views = each_set (Fits k.base log n) mid other spent_view
            (λ j u _ e. each_set (Fits k.base log n) s.views id b (λ i x _ f. h.views i x f) (inr (record { base = mine.0.base; caller = mine.0.caller; made = mine.0.made; seen = mine.0.seen; mine = mine.0.mine }, record { ticket = mine.1.ticket; turn = mine.1.turn })) j u e)
            (inl refl);
        olds = each_set (λ i u. Every (FitsOld log n.news end) u.olds) mid other spent_view
            (λ j u _ e.
            each_set (λ i u. Every (FitsOld log n.news end) u.olds) s.views id b (λ i x _ f. stay x.olds (h.olds i x f))
            (record { seen = theirs.0.seen; mine = theirs.0.mine; spent = (other, theirs.0.caller, set_here mid other spent_view (at_get mid other w there').0) }, every_append (FitsOld log n.news end) w.olds v.olds (stay w.olds (h.olds other w there)) (stay v.olds (h.olds id v at)))
            j u e)
            tt;
        apart = apart_kept mid other w spent_view there' (apart_kept s.views id v b at h.apart (λ t. (t, refl))) (λ t. absurd (true≢false (sym t)));
        lies = lies_stays origin history stands k.base log s.homes mid other w spent_view there' (λ e. absurd (let f : Outside ≡ Entered = sym also ∙ e in cc)) (λ e. cc)
            (lies_stays origin history stands k.base log s.homes s.views id v b at (λ e. absurd (let f : Outside ≡ Entered = sym out ∙ e in cc)) (λ e. absurd (let f : Outside ≡ Entered = sym out ∙ e in cc)) h.lies);
      }
