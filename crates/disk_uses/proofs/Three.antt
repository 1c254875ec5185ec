-- Three addresses.
use Rattle.std.proofs.Common.{◌≡◌, ◌≢◌, ℕ, zero, suc, ◌<◌, List, [], ◌∷◌, length, get_or, refl, sym, arith}
use Rattle.recording_writer.specs.Wrote.{AreBelow, AreDistinct}

pub three_below : (xs : List ℕ) (m : ℕ) → length xs ≡ 3 → get_or xs 0 0 < m → get_or xs 1 0 < m → get_or xs 2 0 < m → AreBelow m xs
three_below xs m size a b c zero below = a
three_below xs m size a b c (suc zero) below = b
three_below xs m size a b c (suc (suc zero)) below = c
three_below xs m size a b c (suc (suc (suc k))) below = absurd (omega arith)

pub three_distinct : (xs : List ℕ) → length xs ≡ 3 → get_or xs 0 0 ≢ get_or xs 1 0 → get_or xs 0 0 ≢ get_or xs 2 0 → get_or xs 1 0 ≢ get_or xs 2 0 → AreDistinct xs
three_distinct xs size ab ac bc zero zero j k e = refl
three_distinct xs size ab ac bc zero (suc zero) j k e = absurd (ab e)
three_distinct xs size ab ac bc zero (suc (suc zero)) j k e = absurd (ac e)
three_distinct xs size ab ac bc (suc zero) zero j k e = absurd (ab (sym e))
three_distinct xs size ab ac bc (suc zero) (suc zero) j k e = refl
three_distinct xs size ab ac bc (suc zero) (suc (suc zero)) j k e = absurd (bc e)
three_distinct xs size ab ac bc (suc (suc zero)) zero j k e = absurd (ac (sym e))
three_distinct xs size ab ac bc (suc (suc zero)) (suc zero) j k e = absurd (bc (sym e))
three_distinct xs size ab ac bc (suc (suc zero)) (suc (suc zero)) j k e = refl
three_distinct xs size ab ac bc (suc (suc (suc i))) n j k e = absurd (omega arith)
three_distinct xs size ab ac bc i (suc (suc (suc n))) j k e = absurd (omega arith)
