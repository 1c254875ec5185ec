-- The change of a call is legal where the journal is read again.
use Rattle.std.proofs.Common.{◌≡◌, ℕ, ◌⊎◌, true, List, Some, None, sym, subst}
use Rattle.voice_units.specs.Spots.{Spot}
use Rattle.voice_model.specs.Samples.{Tagged, spot_of}
use Rattle.voice_model.specs.State.{State, Durable, Effect}
use Rattle.voice_model.specs.Changes.{effect_of}
use Rattle.voice_model.specs.Replay.{Rebuilt, is_legal, durable_by}
use Rattle.voice_model.specs.Base.{change_of, IsMade}
use Rattle.voice_model.specs.Early.{all_but_last}
use Rattle.voice_model.specs.Step.{conditions, first_of, refusal}
use Rattle.voice_model.specs.Valid.{IsState, InRange, IsFit, IsTimely, MayFit, MayBeTimely, TakesFree}
use Rattle.voice_model.specs.declared.calls.Call.{Call}
use Rattle.voice_model.proofs.FitsOfCalls.{early_none, fit_early}
use Rattle.voice_model.proofs.LegalInReplay.{timely_early, legal_again}
use Rattle.voice_model.proofs.ChangesOfEffects.{MadeIf, made_by_calls}

pub made_of_call : (s : State) (tapes : List (List ℕ)) (call : Call) (effect : Effect Tagged) → effect_of s tapes call ≡ Some effect → IsMade effect
made_of_call s tapes call effect e = subst MadeIf e (made_by_calls s tapes call)

by_state : (f : Spot → Tagged) → ((s : Spot) → spot_of (f s) ≡ s) → (r : Rebuilt) (form : ℕ) (d : Durable Tagged) (addresses : List ℕ) (effect : Effect Tagged) → d ≡ durable_by f r.kept → form ≡ r.form → (form ≡ 1) ⊎ (form ≡ 2) → IsFit form d effect → IsTimely form d effect → TakesFree r addresses effect → is_legal r (change_of r.form addresses effect) ≡ true
by_state f same r form d addresses effect e g forms fit timely free =
    legal_again f same r addresses effect (subst (λ n. (n ≡ 1) ⊎ (n ≡ 2)) g forms)
    (subst (λ n. IsFit n (durable_by f r.kept) effect) g (subst (λ k. IsFit form k effect) e fit))
    (subst (λ n. IsTimely n (durable_by f r.kept) effect) g (subst (λ k. IsTimely form k effect) e timely))
    free

-- also where the last condition refuses it
pub legal_early : (f : Spot → Tagged) → ((s : Spot) → spot_of (f s) ≡ s) → (r : Rebuilt) (s : State) (tapes : List (List ℕ)) (call : Call) (addresses : List ℕ) (effect : Effect Tagged) → durable_by f r.kept ≡ s.kept → r.form ≡ s.form → IsState s → InRange call → first_of (all_but_last (conditions s tapes call)) ≡ None → effect_of s tapes call ≡ Some effect → TakesFree r addresses effect → is_legal r (change_of r.form addresses effect) ≡ true
legal_early f same r s tapes call addresses effect d form h range early e takes =
    by_state f same r s.form s.kept addresses effect (sym d) (sym form) h.forms
    (subst (MayFit s.form s.kept) e (fit_early s tapes call h range early))
    (subst (MayBeTimely s.form s.kept) e (timely_early s tapes call h early))
    takes

pub legal_of_call : (f : Spot → Tagged) → ((s : Spot) → spot_of (f s) ≡ s) → (r : Rebuilt) (s : State) (tapes : List (List ℕ)) (call : Call) (addresses : List ℕ) (effect : Effect Tagged) → durable_by f r.kept ≡ s.kept → r.form ≡ s.form → IsState s → InRange call → refusal s tapes call ≡ None → effect_of s tapes call ≡ Some effect → TakesFree r addresses effect → is_legal r (change_of r.form addresses effect) ≡ true
legal_of_call f same r s tapes call addresses effect d form h range free e takes =
    legal_early f same r s tapes call addresses effect d form h range (early_none (conditions s tapes call) free) e takes
