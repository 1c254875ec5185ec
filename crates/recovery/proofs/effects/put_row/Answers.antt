use Rattle.std.proofs.Common.{◌≡◌, ℕ, true, false, not, Option, Some, None, refl, ap}
use Rattle.std.specs.Prelude.{◌↔◌, is_some, IsSomeAnd, Err}
use Rattle.voice_model.specs.declared.calls.Row.{Row}
use Rattle.recovery.proofs.effects.put_row.Goals as goal

untaken : (o : Option Row) (P : ℕ → Type 0) → ((rope : ℕ) → P rope ↔ IsSomeAnd o (λ other. other.rope ≡ rope)) → ((rope : ℕ) → ¬ (P rope)) → true ≡ not (is_some o)
untaken None P h never = refl
untaken (Some row) P h never = absurd (never row.rope ((h row.rope).1 refl))

is_taken : (o : Option Row) (rope : ℕ) → IsSomeAnd o (λ other. other.rope ≡ rope) → false ≡ not (is_some o)
is_taken None rope h = absurd h
is_taken (Some row) rope h = refl

pub returns-in-Ok-clause-exact : goal.returns-in-Ok-clause-exact
returns-in-Ok-clause-exact c = untaken _ _ c.in-Ok.ensures.taken (λ rope e. cc)

pub returns-in-Err-Taken-clause-exact : goal.returns-in-Err-Taken-clause-exact
returns-in-Err-Taken-clause-exact c = is_taken _ c.in-Err-Taken.field-0-0 ((c.in-Err-Taken.ensures.taken c.in-Err-Taken.field-0-0).0 (ap Err c.in-Err-Taken.field-0-is))
