-- The table of interests, as contracts see it.
--     Table      the rows in order of making, and how many more fit without memory
--     rows_of rope rows      how many rows a rope has
--     key_bytes_of rows, note_bytes_of rows      how many bytes the keys of rows have;  how many their notes have
--     expired_keys now rows      the keys of the rows of class Until whose moment is not above now
--     expired_owners now rows      the ropes of those rows, one for each
--     is_named class keys row      whether a row is of this class and has one of these keys
use Rattle.std.specs.Prelude.{ℕ, ◌+◌, Bool, ◌&&◌, ◌==◌, cond, List, [], ◌∷◌, map, filter, length, bytes_eq}
use Rattle.std.specs.List.{list_any}
use Rattle.voice_model.specs.State.{class_number}
use Rattle.voice_model.specs.Changes.{is_expired}
use Rattle.voice_model.specs.declared.calls.Class.{Class}
use Rattle.voice_model.specs.declared.calls.Row.{Row}

-- the rows in order of making, and how many more fit without memory
pub record Table : Type 0 where
  pub rows : List Row
  pub spare : ℕ

-- how many rows a rope has
abbrev pub rows_of : ℕ → List Row → ℕ
rows_of rope [] = 0
rows_of rope (row ∷ rows) = cond (row.rope == rope) 1 0 + rows_of rope rows

-- how many bytes the keys of rows have
abbrev pub key_bytes_of : List Row → ℕ
key_bytes_of [] = 0
key_bytes_of (row ∷ rows) = length row.key + key_bytes_of rows

-- how many bytes the notes of rows have
abbrev pub note_bytes_of : List Row → ℕ
note_bytes_of [] = 0
note_bytes_of (row ∷ rows) = length row.note + note_bytes_of rows

-- the keys of the rows of class Until whose moment is not above now
abbrev pub expired_keys : ℕ → List Row → List (List ℕ)
expired_keys now rows = map (λ row. row.key) (filter (is_expired now) rows)

-- the ropes of those rows, one for each
abbrev pub expired_owners : ℕ → List Row → List ℕ
expired_owners now rows = map (λ row. row.rope) (filter (is_expired now) rows)

-- whether a row is of this class and has one of these keys
abbrev pub is_named : Class → List (List ℕ) → Row → Bool
is_named class keys row = (class_number row.class == class_number class) && list_any (bytes_eq row.key) keys
