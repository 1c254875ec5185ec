-- Numbers as bytes, the highest first.
--     spelled_number bytes      the number that bytes spell
--     number_at width from bytes      the number in `width` bytes from a place on
--     number_bytes width n      a number in so many bytes
use Rattle.std.specs.Prelude.{ℕ, zero, suc, ◌+◌, ◌*◌, ◌/◌, ◌%◌, ◌^◌, List, [], ◌∷◌, fold}
use Rattle.voice_units.specs.Spots.{slice}

-- the number that bytes spell
abbrev pub spelled_number : List ℕ → ℕ
spelled_number bytes = fold (λ n b. n * 256 + b) 0 bytes

-- the number in `width` bytes from a place on
abbrev pub number_at : ℕ → ℕ → List ℕ → ℕ
number_at width from bytes = spelled_number (slice bytes from width)

-- a number in so many bytes
abbrev pub number_bytes : ℕ → ℕ → List ℕ
number_bytes zero n = []
number_bytes (suc width) n = (n / 256 ^ width) % 256 ∷ number_bytes width n
