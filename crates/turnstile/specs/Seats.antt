-- The seats of passes.
use Rattle.std.specs.Prelude.{ℕ, ◌≡◌, ◌⊎◌, List, [], ◌∷◌, Option, None}
use Rattle.atomic_table.specs.declared.shared.Seat.{Seat}
use Rattle.turnstile.specs.declared.view.View.{View}
use Rattle.turnstile.specs.declared.view.Old.{Old}
use Rattle.turnstile.specs.declared.view.Stage.TheVariants.{Outside, Entered}
use Rattle.turnstile.specs.Shown.{ShownPass}
use Rattle.turnstile.specs.Turns.{has_turn}

module _ {T : Type 0} where
  -- a seat without a slot
  abbrev pub StandsOutside : Seat (Option T) (View T) → Type 0
  StandsOutside s = (s.me.0.stage ≡ Outside) × (s.me.1 ≡ [])

  -- a seat with the turn, whose value was taken out of the slot
  abbrev pub HasEntered : Seat (Option T) (View T) → Type 0
  HasEntered s = (s.me.0.stage ≡ Entered) × (s.me.1 ≡ (0, None) ∷ [])

  -- what contracts see of a pass with this seat
  abbrev pub shown_pass : ℕ → Seat (Option T) (View T) → ShownPass T
  shown_pass caller s = record {
    of = record { table = s.table_id; start = s.me.0.base };
    caller = caller;
    seen = s.me.0.seen;
    mine = s.me.0.mine;
    entered = has_turn s.me.0.stage;
  }

  -- a pass between the calls of its turnstile: it has taken in no other
  pub record IsAtRest (number : ℕ) (s : Seat (Option T) (View T)) : Type 0 where
    pub caller : s.me.0.caller ≡ number
    pub olds : s.me.0.olds ≡ []
    pub rests : StandsOutside s ⊎ HasEntered s

  -- what is kept of a pass that was taken in
  abbrev pub old_pass : ShownPass T → Old
  old_pass p = record { caller = p.caller; seen = p.seen; mine = p.mine }

  -- what is kept of these, and of those before
  abbrev pub gathered : List Old → List (ShownPass T) → List Old
  gathered xs [] = xs
  gathered xs (p ∷ ps) = old_pass p ∷ gathered xs ps
