-- The state that a landing leaves.
use Rattle.std.proofs.Common.{◌≡◌, ◌<◌, ◌≤◌, Option, Some, None, cond, Bool, refl, ◌∙◌, ap, le-leb}
use Rattle.std.proofs.lemmas.Bool.{lt-leb}
use Rattle.std.specs.Prelude.{nat_le}
use Rattle.voice_model.specs.Samples.{Tagged}
use Rattle.voice_model.specs.State.{State, Durable, Effect, Pending}
use Rattle.voice_model.specs.Changes.{changed, frame_size, form_after_switch}
use Rattle.voice_model.specs.Step.{landed, after_landing}
use Rattle.crash_laws.specs.Calls.{KeepsDurable, IsInDoubt}

abbrev sure : State → State
sure s = record s { doubt = None }

-- ---- states that keep the same

kept_by : (s t : State) → KeepsDurable s t → (o : Option Pending) → (after_landing (sure t) o).kept ≡ (after_landing (sure s) o).kept
kept_by s t same None = same.kept
kept_by s t same (Some p) = ap (λ (d : Durable Tagged). changed p.form d p.effect) same.kept

form_by : (s t : State) → KeepsDurable s t → (o : Option Pending) → (after_landing (sure t) o).form ≡ (after_landing (sure s) o).form
form_by s t same None = same.form
form_by s t same (Some p) =
    λ i. cond (nat_le (frame_size p.form (same.kept i).shape.block p.effect) (same.left i)) (same.form i) (form_after_switch (same.form i) (changed p.form (same.kept i) p.effect))

pub landed_kept : (s t : State) → KeepsDurable s t → (landed t).kept ≡ (landed s).kept
landed_kept s t same = ap (λ (o : Option Pending). (after_landing (sure t) o).kept) same.doubt ∙ kept_by s t same s.doubt

pub landed_form : (s t : State) → KeepsDurable s t → (landed t).form ≡ (landed s).form
landed_form s t same = ap (λ (o : Option Pending). (after_landing (sure t) o).form) same.doubt ∙ form_by s t same s.doubt

-- ---- nothing is in doubt after a landing

sure_by : (s : State) (o : Option Pending) → (after_landing (sure s) o).doubt ≡ None
sure_by s None = refl
sure_by s (Some p) = refl

pub landed_sure : (s : State) → (landed s).doubt ≡ None
landed_sure s = sure_by s s.doubt

-- ---- a change in doubt

module _ (s : State) (effect : Effect Tagged) (t : State) (is : IsInDoubt s effect t) where
  abbrev asked : Pending
  asked = record { effect = effect; form = s.form }

  abbrev then_kept : Durable Tagged
  then_kept = changed s.form s.kept effect

  pub doubt_kept : (landed t).kept ≡ then_kept
  doubt_kept = ap (λ (o : Option Pending). (after_landing (sure t) o).kept) is.doubt ∙ ap (λ (d : Durable Tagged). changed s.form d effect) is.kept

  form_then : (landed t).form ≡ cond (nat_le (frame_size s.form s.shape.block effect) s.left) s.form (form_after_switch s.form then_kept)
  form_then =
      ap (λ (o : Option Pending). (after_landing (sure t) o).form) is.doubt
      ∙ (λ i. cond (nat_le (frame_size s.form (is.kept i).shape.block effect) (is.left i)) (is.form i) (form_after_switch (is.form i) (changed s.form (is.kept i) effect)))

  -- its frame fits the rest
  pub appended_form : frame_size s.form s.shape.block effect ≤ s.left → (landed t).form ≡ s.form
  appended_form fits = form_then ∙ ap (λ (x : Bool). cond x s.form (form_after_switch s.form then_kept)) (le-leb _ _ fits)

  -- it doesn't
  pub switched_form : s.left < frame_size s.form s.shape.block effect → (landed t).form ≡ form_after_switch s.form then_kept
  switched_form long = form_then ∙ ap (λ (x : Bool). cond x s.form (form_after_switch s.form then_kept)) (lt-leb _ _ long)
