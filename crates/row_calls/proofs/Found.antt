-- What a Forget is refused by.
use Rattle.std.proofs.Common.{◌≡◌, ℕ, List, [], ◌∷◌, Option, Some, None, refl, sym, ◌∙◌, ap}
use Rattle.voice_model.specs.State.{State, row_at}
use Rattle.voice_model.specs.Step.{first_of, found, if_missing, refusal, reply_by}
use Rattle.voice_model.specs.declared.calls.Call.TheVariants as calls
use Rattle.voice_model.specs.declared.calls.Class.{Class}
use Rattle.voice_model.specs.declared.calls.Row.{Row}
use Rattle.voice_model.specs.declared.calls.Why.TheVariants as why

pub missing : (rows others : List Row) (class : Class) (key : List ℕ) → others ≡ rows → None ≡ row_at others class key → first_of (if_missing (row_at rows class key) ∷ []) ≡ Some why.NoInterest
missing rows others class key same e = ap (λ rows. first_of (if_missing (row_at rows class key) ∷ [])) (sym same) ∙ ap (λ o. first_of (if_missing o ∷ [])) (sym e)

pub stands : (rows others : List Row) (class : Class) (key : List ℕ) (row : Row) → others ≡ rows → Some row ≡ row_at others class key → first_of (if_missing (row_at rows class key) ∷ []) ≡ None
stands rows others class key row same e = ap (λ rows. first_of (if_missing (row_at rows class key) ∷ [])) (sym same) ∙ ap (λ o. first_of (if_missing o ∷ [])) (sym e)
