-- What the bytes of each kind say, where nothing is refused.
--     values      what items say, one after another
--     address_values, id_values, pair_values, piece_values, key_values      the lists of a payload
--     recorded_in, edited_in .. rope2_in      the change of a kind with its fields at their places
--     said_by_kind bytes      they by their kind
use Rattle.std.specs.Prelude.{ℕ, zero, suc, ◌+◌, List, [], ◌∷◌, Option, Some, None}
use Rattle.voice_units.specs.declared.pieces.Piece.{Piece}
use Rattle.voice_units.specs.Spots.{slice}
use Rattle.disk_areas.specs.Numbers.{number_at}
use Rattle.voice_model.specs.Spelling.{class_of}
use Rattle.voice_model.specs.declared.changes.Change.{Change}
use Rattle.voice_model.specs.declared.changes.Change.TheVariants as changes
use Rattle.voice_model.specs.declared.lists.Pair.{Pair}
use Rattle.change_codec.specs.declared.items.Rising.{Rising}
use Rattle.change_codec.specs.Refused.{next_id, next_pair, piece_in, next_piece, next_key}
use Rattle.change_codec.specs.declared.appending.Width.{Width}
use Rattle.change_codec.specs.declared.appending.Width.TheVariants.{Narrow, Wide}

-- ---- lists

-- what items say, one after another
unfoldable pub values : {S A : Type 0} → (S → A) → (S → S) → ℕ → S → List A
values value next zero s = []
values value next (suc count) s = value s ∷ values value next count (next s)

-- addresses
abbrev pub address_values : ℕ → ℕ → ℕ → List ℕ → List ℕ
address_values width count at bytes = values (λ at. number_at width at bytes) (λ at. at + width) count at

-- numbers of ropes
abbrev pub id_values : ℕ → ℕ → List ℕ → List ℕ
id_values count at bytes = values (λ r. number_at 8 r.at bytes) (next_id bytes) count (record { at = at; least = 1 })

-- a pair
abbrev pub pair_in : ℕ → List ℕ → Rising → Pair
pair_in width bytes r = record { index = number_at 4 r.at bytes; address = number_at width (r.at + 4) bytes }

-- pairs
abbrev pub pair_values : ℕ → ℕ → ℕ → List ℕ → List Pair
pair_values width count at bytes = values (pair_in width bytes) (next_pair width bytes) count (record { at = at; least = 0 })

-- so many pieces
abbrev pub run_values : ℕ → ℕ → List ℕ → List Piece
run_values count at bytes = values (piece_in bytes) (next_piece bytes) count (record { at = at; file = 0; last = 0; sum = 0 })

-- pieces with their count in front
abbrev pub piece_values : ℕ → List ℕ → List Piece
piece_values at bytes = run_values (number_at 2 at bytes) (at + 2) bytes

-- a text with its length in front
abbrev pub key_in : List ℕ → ℕ → List ℕ
key_in bytes at = slice bytes (at + 1) (number_at 1 at bytes)

-- keys
abbrev pub key_values : ℕ → ℕ → List ℕ → List (List ℕ)
key_values count at bytes = values (key_in bytes) (next_key bytes) count at

-- ---- kinds

-- the recording of a rope
abbrev pub recorded_in : Width → List ℕ → Change
recorded_in Narrow bytes = changes.Recorded (number_at 8 1 bytes) (number_at 4 9 bytes) (address_values 2 (number_at 4 13 bytes) 17 bytes)
recorded_in Wide bytes = changes.Wide (number_at 8 1 bytes) (number_at 4 9 bytes) (address_values 4 (number_at 4 13 bytes) 17 bytes)

-- an edit
abbrev pub edited_in : List ℕ → Change
edited_in bytes = changes.Edited (number_at 8 1 bytes) (piece_values 9 bytes)

-- an interest that comes
abbrev pub retained_in : List ℕ → Change
retained_in bytes =
    let n = number_at 1 2 bytes in
    changes.Retained (class_of (number_at 1 1 bytes)) (key_in bytes 2) (number_at 8 (3 + n) bytes) (key_in bytes (11 + n))

-- an interest that goes
abbrev pub forgotten_in : List ℕ → Change
forgotten_in bytes = changes.Forgotten (class_of (number_at 1 1 bytes)) (key_in bytes 2)

-- a census
abbrev pub census_in : List ℕ → Change
census_in bytes = changes.Census (key_values (number_at 2 1 bytes) 3 bytes)

-- a sweep
abbrev pub swept_in : List ℕ → Change
swept_in bytes = changes.Swept (id_values (number_at 2 1 bytes) 3 bytes)

-- a moment that comes
abbrev pub advanced_in : List ℕ → Change
advanced_in bytes = changes.Advanced (number_at 8 1 bytes)

-- the head of a base in form 1
abbrev pub base_in : List ℕ → Change
base_in bytes = changes.Base (number_at 8 1 bytes) (number_at 8 9 bytes)

-- the head of a base in form 2
abbrev pub base2_in : List ℕ → Change
base2_in bytes = changes.Base2 (number_at 8 1 bytes) (number_at 8 9 bytes)

-- the blocks of a file
abbrev pub file_in : Width → List ℕ → Change
file_in Narrow bytes = changes.File (number_at 8 1 bytes) (pair_values 2 (number_at 4 9 bytes) 13 bytes)
file_in Wide bytes = changes.File2 (number_at 8 1 bytes) (pair_values 4 (number_at 4 9 bytes) 13 bytes)

-- a rope of a base in form 1
abbrev pub rope_in : List ℕ → Change
rope_in bytes = changes.Rope (number_at 8 1 bytes) (number_at 8 9 bytes) (piece_values 17 bytes)

-- a rope of a base in form 2
abbrev pub rope2_in : List ℕ → Change
rope2_in bytes = changes.Rope2 (number_at 8 1 bytes) (number_at 8 9 bytes) (number_at 1 17 bytes) (piece_values 18 bytes)

-- for each kind, from 0 on
abbrev pub said_by_kind : List ℕ → List (Option Change)
said_by_kind bytes =
    None
    ∷ Some (recorded_in Narrow bytes)
    ∷ Some (edited_in bytes)
    ∷ Some (retained_in bytes)
    ∷ Some (forgotten_in bytes)
    ∷ Some (census_in bytes)
    ∷ Some (swept_in bytes)
    ∷ Some (advanced_in bytes)
    ∷ Some (base_in bytes)
    ∷ Some (file_in Narrow bytes)
    ∷ Some (rope_in bytes)
    ∷ Some (recorded_in Wide bytes)
    ∷ Some (base2_in bytes)
    ∷ Some (file_in Wide bytes)
    ∷ Some (rope2_in bytes)
    ∷ []
