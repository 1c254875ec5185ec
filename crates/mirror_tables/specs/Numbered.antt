-- The base under one number, and how large it is.
--     with_number n payloads      payloads, each behind this number
--     numbered_base_of n b      the base of what is rebuilt, each record under one number
--     numbered_by_numbers n      the bytes that a base with these numbers takes as records, each with a number of 8 bytes
--     numbered_size parts, plain_size parts      the bytes that the base of what parts show takes with a number before each record, and without
use Rattle.std.specs.Prelude.{ℕ, ◌+◌, ◌*◌, List, ◌++◌, map}
use Rattle.disk_areas.specs.Numbers.{number_bytes}
use Rattle.voice_model.specs.Spelling.{spelling}
use Rattle.voice_model.specs.Replay.{Rebuilt}
use Rattle.voice_model.specs.Base.{base_of}
use Rattle.recovery.specs.declared.parts.Parts.{Parts}
use Rattle.checkpoint.specs.Size.{size_by_numbers, numbers_of}
use Rattle.checkpoint.specs.declared.sizes.BaseNumbers.{BaseNumbers}

-- payloads, each behind this number
abbrev pub with_number : ℕ → List (List ℕ) → List (List ℕ)
with_number n payloads = map (λ payload. number_bytes 8 n ++ payload) payloads

-- the base of what is rebuilt, each record under one number
abbrev pub numbered_base_of : ℕ → Rebuilt → List (List ℕ)
numbered_base_of n b = map (λ payload. number_bytes 8 n ++ payload) (map spelling (base_of 2 b))

-- the bytes that a base with these numbers takes as records, each with a number of 8 bytes
abbrev pub numbered_by_numbers : BaseNumbers → ℕ
numbered_by_numbers n = size_by_numbers 2 n + 8 * (1 + n.files + n.ropes + n.rows)

-- the bytes that the base of what parts show takes as records, each with a number of 8 bytes
abbrev pub numbered_size : Parts → ℕ
numbered_size parts = numbered_by_numbers (numbers_of parts.ropes parts.interests.rows)

-- and without numbers
abbrev pub plain_size : Parts → ℕ
plain_size parts = size_by_numbers 2 (numbers_of parts.ropes parts.interests.rows)
