-- Blocks that are noted, one step after another.
use Rattle.std.proofs.Common.{◌≡◌, Bool, true, false, ◌&&◌, ◌||◌, cond, refl, sym, ◌∙◌, ap}

or_assoc : (a b c : Bool) → ((a || b) || c) ≡ (a || (b || c))
or_assoc true b c = refl
or_assoc false b c = refl

or_false : (a : Bool) → (a || false) ≡ a
or_false true = refl
or_false false = refl

-- what was noted before, and of these blocks the shared ones
pub noted_step : (shared was x y z now last : Bool) → now ≡ (was || (shared && x)) → last ≡ (now || (shared && y)) → (x || y) ≡ z → last ≡ (was || (shared && z))
noted_step true was x y z now last e f g = f ∙ ap (λ b. b || y) e ∙ or_assoc was x y ∙ ap (λ b. was || b) g
noted_step false was x y z now last e f g = f ∙ or_false now ∙ e

-- nothing more is noted
pub noted_none : (shared was : Bool) → was ≡ (was || (shared && false))
noted_none true was = sym (or_false was)
noted_none false was = sym (or_false was)

-- a block that was put in, or not
pub noted_put : (shared was same now : Bool) → now ≡ cond same true was → shared ≡ true → now ≡ (was || (shared && same))
noted_put shared was same now e t = e ∙ by same was ∙ ap (λ b. was || (b && same)) (sym t)
  where
    by : (a b : Bool) → cond a true b ≡ (b || a)
    by true true = refl
    by true false = refl
    by false true = refl
    by false false = refl
