-- The sample files of a script, by first mention.
use Rattle.std.specs.Prelude.{ℕ, List, [], ◌∷◌, ◌+◌, Option, Some, None, option_map, unwrap_or, if◌then◌else◌, length}
use Rattle.std.specs.Str.{bytes_eq}

-- the first place of a name among names
abbrev pub place_of : List (List ℕ) → List ℕ → Option ℕ
place_of [] name = None
place_of (n ∷ names) name = if bytes_eq n name then Some 0 else option_map (λ k. k + 1) (place_of names name)

-- the number of the tape of a sample file, which comes last where it wasn't mentioned before
abbrev pub tape_of : List (List ℕ) → List ℕ → ℕ
tape_of samples name = unwrap_or (place_of samples name) (length samples)
