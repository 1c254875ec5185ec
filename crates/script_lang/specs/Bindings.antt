-- The bindings of a map from variables to ropes.
use Rattle.std.specs.Prelude.{ℕ, List, [], ◌∷◌, ◌≡◌, cond, bytes_eq}
use Rattle.voice_model.specs.Follows.{Binding, value_of}

abbrev pub binding : List ℕ → ℕ → Binding
binding name rope = record { name = name; rope = rope }

abbrev pub bindings : List (List ℕ × ℕ) → List Binding
bindings [] = []
bindings (e ∷ es) = binding e.0 e.1 ∷ bindings es

-- that variable stands for the rope, and each other one for what it did
abbrev pub Sets : List Binding → List ℕ → ℕ → List Binding → Type 0
Sets old name rope new = (other : List ℕ) → value_of new other ≡ cond (bytes_eq name other) rope (value_of old other)
