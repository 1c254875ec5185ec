-- The sample files.
use Rattle.std.specs.Prelude.{ℕ, ◌+◌, ◌*◌, ◌%◌, List, map}
use Rattle.std.specs.List.{range_with_len}

-- byte k of a file
abbrev pub file_byte : ℕ → ℕ → ℕ
file_byte i k = (7 * k + 31 * i) % 256

-- the bytes of a file
unfoldable pub file_bytes : ℕ → List ℕ
file_bytes i = map (file_byte i) (range_with_len 0 (1000 * (i + 1)))
