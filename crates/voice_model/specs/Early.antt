-- Conditions before the last.
--     all_but_last xs      a list without its last element
use Rattle.std.specs.Prelude.{List, [], ◌∷◌}

-- a list without its last element
abbrev pub all_but_last : {A : Type 0} → List A → List A
all_but_last [] = []
all_but_last (x ∷ []) = []
all_but_last (x ∷ y ∷ xs) = x ∷ all_but_last (y ∷ xs)
