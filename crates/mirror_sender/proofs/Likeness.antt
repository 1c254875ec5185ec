-- Durable parts that are alike: what calls make of them, and what changes leave of them.
use Rattle.std.proofs.Common.{◌≡◌, ◌⊎◌, inl, inr, ℕ, Bool, true, false, ◌||◌, List, [], Option, Some, None, refl, sym, ◌∙◌, ap, ap₂, subst}
use Rattle.std.specs.Prelude.{IsTrue, ◌≤◌, ◌-◌}
use Rattle.voice_units.specs.Layout.{IsOneGrace}
use Rattle.voice_units.specs.declared.shapes.Shape.{Shape}
use Rattle.voice_model.specs.Samples.{Tagged}
use Rattle.voice_model.specs.State.{State, Durable, Effect, Pending}
use Rattle.voice_model.specs.State.Effect.{Recorded, Edited, Retained, Forgotten, Counted, Swept, Advanced}
use Rattle.voice_model.specs.Changes.{changed, effect_of}
use Rattle.voice_model.specs.Valid.{IsState, IsFit, IsPending}
use Rattle.voice_model.specs.declared.calls.Call.{Call}
use Rattle.recovery.specs.declared.parts.Parts.{Parts}
use Rattle.edits.specs.Shown.{before_journal}
use Rattle.row_calls.specs.Asked.{is_row_call}
use Rattle.mirror_sender.specs.Told.{plainly, IsLike, IsSame, IsPlainly, IsTold, changed_by}
use Rattle.mirror_sender.specs.Coming.{is_edit}
use Rattle.mirror_sender.proofs.Plainly.{plainly_changed, plain_state, effect_plainly, early_plainly, fit_plainly, fit_back}

-- the state with another durable part and form
abbrev pub own_state : State → ℕ → Durable Tagged → State
own_state s form own = record s { kept = own; form = form }

plain_shape : (own d : Durable Tagged) → plainly own ≡ plainly d → own.shape ≡ d.shape
plain_shape own d e = ap (λ (x : Durable Tagged). x.shape) e

plain_next : (own d : Durable Tagged) → plainly own ≡ plainly d → own.next ≡ d.next
plain_next own d e = ap (λ (x : Durable Tagged). x.next) e

pub like_shape : (ours : ℕ) (own : Durable Tagged) (form : ℕ) (d : Durable Tagged) → IsLike ours own form d → own.shape ≡ d.shape
like_shape ours own form d (inl same) = ap (λ (x : Durable Tagged). x.shape) same.kept
like_shape ours own form d (inr plain) = plain_shape own d plain.kept

pub like_next : (ours : ℕ) (own : Durable Tagged) (form : ℕ) (d : Durable Tagged) → IsLike ours own form d → own.next ≡ d.next
like_next ours own form d (inl same) = ap (λ (x : Durable Tagged). x.next) same.kept
like_next ours own form d (inr plain) = plain_next own d plain.kept

own_grace : (own d : Durable Tagged) → IsPlainly own d → IsOneGrace own.shape.graces
own_grace own d h = subst (λ (shape : Shape). IsOneGrace shape.graces) (sym (plain_shape own d h.kept)) h.grace

-- a call makes the same of both
pub effect_like : (s : State) (tapes : List (List ℕ)) (call : Call) (ours : ℕ) (own : Durable Tagged) → IsLike ours own s.form s.kept → effect_of (own_state s ours own) tapes call ≡ effect_of s tapes call
effect_like s tapes call ours own (inl same) = ap₂ (λ f d. effect_of (own_state s f d) tapes call) same.forms same.kept
effect_like s tapes call ours own (inr plain) =
    effect_plainly (own_state s ours own) tapes call (own_grace own s.kept plain)
    ∙ ap (λ (d : Durable Tagged). effect_of (own_state s 1 d) tapes call) plain.kept
    ∙ sym (effect_plainly s tapes call plain.grace)

-- and is refused alike
pub early_like : (s : State) (tapes : List (List ℕ)) (call : Call) (ours : ℕ) (own : Durable Tagged) → IsTrue (is_edit call || is_row_call call) → IsLike ours own s.form s.kept → before_journal (own_state s ours own) tapes call ≡ before_journal s tapes call
early_like s tapes call ours own kind (inl same) = ap₂ (λ f d. before_journal (own_state s f d) tapes call) same.forms same.kept
early_like s tapes call ours own kind (inr plain) =
    early_plainly (own_state s ours own) tapes call kind
    ∙ ap (λ (d : Durable Tagged). before_journal (own_state s 1 d) tapes call) plain.kept
    ∙ sym (early_plainly s tapes call kind)

-- what may be done on one may be done on the other
pub fit_like : (ours : ℕ) (own : Durable Tagged) (form : ℕ) (d : Durable Tagged) (e : Effect Tagged) → IsLike ours own form d → IsFit form d e → IsFit ours own e
fit_like ours own form d e (inl same) h = subst (λ f. IsFit f own e) (sym same.forms) (subst (λ x. IsFit form x e) (sym same.kept) h)
fit_like ours own form d e (inr plain) h = fit_back ours own e (subst (λ x. IsFit 1 x e) (sym plain.kept) (fit_plainly form d e h))

same_shape : (form : ℕ) (d : Durable Tagged) (e : Effect Tagged) → (changed form d e).shape ≡ d.shape
same_shape form d (Recorded id samples) = refl
same_shape form d (Edited id samples) = refl
same_shape form d (Retained row) = refl
same_shape form d (Forgotten class key) = refl
same_shape form d (Counted keys) = refl
same_shape form d (Swept ids) = refl
same_shape form d (Advanced moment) = refl

-- and they are alike after it
pub like_changed : (ours : ℕ) (own : Durable Tagged) (form later : ℕ) (d : Durable Tagged) (e : Effect Tagged) → (form ≡ 2 → later ≡ 2) → IsLike ours own form d → IsLike ours (changed ours own e) later (changed form d e)
like_changed ours own form later d e newer (inl same) = inl (record { kept = ap₂ (λ f x. changed f x e) same.forms same.kept; forms = same.forms ∙ same.newer ∙ sym (newer same.newer); newer = newer same.newer })
like_changed ours own form later d e newer (inr plain) =
    inr (record {
      grace = subst (λ (shape : Shape). IsOneGrace shape.graces) (sym (same_shape form d e)) plain.grace;
      kept = plainly_changed ours own e ∙ ap (λ (x : Durable Tagged). plainly (changed 1 x e)) plain.kept ∙ sym (plainly_changed form d e);
    })

pub like_later : (ours : ℕ) (own : Durable Tagged) (form later : ℕ) (d : Durable Tagged) → (form ≡ 2 → later ≡ 2) → IsLike ours own form d → IsLike ours own later d
like_later ours own form later d newer (inl same) = inl (record { kept = same.kept; forms = same.forms ∙ same.newer ∙ sym (newer same.newer); newer = newer same.newer })
like_later ours own form later d newer (inr plain) = inr plain

pub own_shape : (form : ℕ) (d : Durable Tagged) (e : Effect Tagged) → (changed form d e).shape ≡ d.shape
own_shape form d e = same_shape form d e

-- what the tables tell is a state where they are like one
pub own_valid : (own : Durable Tagged) (parts : Parts) (s : State) → IsTold own parts → IsLike parts.form own s.form s.kept → s.doubt ≡ None → IsState s → IsState (own_state s parts.form own)
own_valid own parts s told like sure valid =
    let same = like_shape parts.form own s.form s.kept like in
    record {
      kept = told.valid;
      forms = told.forms;
      doubt = subst (λ (o : Option Pending). IsPending (own_state s parts.form own) o) (sym sure) tt;
      lanes = valid.lanes;
      lane_count = valid.lane_count ∙ ap (λ (shape : Shape). shape.lanes) (sym same);
      rest = subst (λ (shape : Shape). s.left ≤ shape.area - 17) (sym same) valid.rest;
      newest = told.newest;
    }

-- the durable part with an effect done, if there is one
pub like_by : (ours : ℕ) (own : Durable Tagged) (form later : ℕ) (d : Durable Tagged) (made : Option (Effect Tagged)) → (form ≡ 2 → later ≡ 2) → IsLike ours own form d → IsLike ours (changed_by ours own made) later (changed_by form d made)
like_by ours own form later d None newer h = like_later ours own form later d newer h
like_by ours own form later d (Some e) newer h = like_changed ours own form later d e newer h
