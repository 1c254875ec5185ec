-- Numbers as bits of words.
--     bit_of words k      1 where k is in, else 0
--     AreFull words n      the first n words are full
use Rattle.std.specs.Prelude.{◌≡◌, ℕ, ◌-◌, ◌/◌, ◌%◌, ◌^◌, ◌<◌, List, slice_index}
use Rattle.std.specs.Int.{bit_at}

-- 1 where k is in, else 0
abbrev pub bit_of : List ℕ → ℕ → ℕ
bit_of words k = bit_at (slice_index words (k / 64)) (k % 64)

-- the first n words are full
abbrev pub AreFull : List ℕ → ℕ → Type 0
AreFull words n = (w : ℕ) → w < n → slice_index words w ≡ 2 ^ 64 - 1
