-- A knock keeps the turn rule.
use Rattle.std.proofs.Common.{◌≡◌, ℕ, zero, suc, ◌≤◌, List, ◌∷◌, Option, refl, sym, ap, ◌∙◌, subst, arith}
use Rattle.std.specs.Prelude.{slice_index, slice_set}
use Rattle.atomic_table.specs.Table.{Me, keeps, Allows}
use Rattle.atomic_table.proofs.Lists.{set_again}
use Rattle.voice_model.specs.declared.calls.Entry.{Entry}
use Rattle.turnstile.specs.declared.view.View.{View}
use Rattle.turnstile.specs.declared.view.Start.{Start}
use Rattle.turnstile.specs.Turns.{Stays, Kept}

-- a write behind the first three words
behind : (a b c : ℕ) (doors : List ℕ) (word x : ℕ) → 3 ≤ word → (after : List ℕ) × (slice_set (a ∷ b ∷ c ∷ doors) word x ≡ a ∷ b ∷ c ∷ after)
behind a b c doors zero x le = absurd (omega (arith, le))
behind a b c doors (suc zero) x le = absurd (omega (arith, le))
behind a b c doors (suc (suc zero)) x le = absurd (omega (arith, le))
behind a b c doors (suc (suc (suc i))) x le = (slice_set doors i x, refl)

module _ {T O : Type 0} (origin : T → O) (history : T → List Entry) (stands : T → Type 0) where
  pub knocks : (k : Start T) (slots id : ℕ) (m : Me (Option T) (View T)) (word : ℕ) (f : ℕ → ℕ) → 3 ≤ word → Allows (Kept origin history stands k) slots id m word f (λ _. Stays m)
  knocks k slots id m word f door s h len at lt =
      let x : ℕ = f (slice_index s.words word) in
      let d = behind _ _ _ h.doors word x door in (
        m.0,
        keeps,
        tt,
        subst (Kept origin history stands k) (λ i. record { words = slice_set s.words word x; homes = s.homes; views = sym (set_again s.views id m.0 at) i })
            (record {
              count = h.count;
              few = h.few;
              doors = d.0;
              words = ap (λ (ws : List ℕ). slice_set ws word x) h.words ∙ d.1;
              queue = h.queue;
              passes = h.passes;
              joined = h.joined;
              callers = h.callers;
              views = h.views;
              olds = h.olds;
              apart = h.apart;
              lies = h.lies;
            }),
        refl,
      )
