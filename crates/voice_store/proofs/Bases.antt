-- The form of a base.
use Rattle.std.proofs.Common.{◌≡◌, ◌⊎◌, inl, inr, ℕ, ◌==◌, ◌<◌, Bool, true, false, cond, ◌||◌, refl, sym, ◌∙◌, ap, arith}
use Rattle.std.proofs.lemmas.Bool.{eqb-true, leb-true}
use Rattle.std.specs.Prelude.{nat_le}
use Rattle.checkpoint.specs.Compact.{MayTake}

pub not_eqb : (a b : ℕ) → (a ≡ b → ⊥) → (a == b) ≡ false
not_eqb a b other = by_test (a == b) refl
  where
    by_test : (t : Bool) → (a == b) ≡ t → (a == b) ≡ false
    by_test true e = absurd (other (eqb-true a b e))
    by_test false e = e

pub above_leb : (a b : ℕ) → b < a → nat_le a b ≡ false
above_leb a b less = by_test (nat_le a b) refl
  where
    by_test : (t : Bool) → nat_le a b ≡ t → nat_le a b ≡ false
    by_test true e = let le = leb-true a b e in absurd (omega (arith, le, less))
    by_test false e = e

abbrev form_by : Bool → ℕ
form_by two = cond two 2 1

-- form 1 is taken where it is the form already, and a base of form 2 does not fit
pub form_1_taken : (form size room : ℕ) → (form == 2) ≡ false → nat_le size room ≡ false → form_by false ≡ form_by ((form == 2) || nat_le size room)
form_1_taken form size room first second = sym (ap (λ (b : Bool). form_by (b || nat_le size room)) first ∙ ap form_by second)

pub may_take_1 : (form : ℕ) → (form ≡ 1) ⊎ (form ≡ 2) → (form == 2) ≡ false → MayTake 1 form
may_take_1 form (inl one) other = inr (refl, one)
may_take_1 form (inr two) other = let bad : true ≡ false = sym (ap (λ (n : ℕ). n == 2) two) ∙ other in cc
