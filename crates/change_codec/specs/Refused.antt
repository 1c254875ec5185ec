-- Where bytes stop being the spelling of a change.
--     number, part      the place at which a field breaks the grammar: a number with its range, or bytes of any value
--     behind      the place of a byte behind the last field
--     each      the first place in a list of items and what is behind it
--     refused bytes      the first byte of the first field that breaks the grammar, or the length where the bytes end too early; none where a change is spelled
--     IsPlace, IsRefusal      what an error says of a place, and of the bytes
use Rattle.std.specs.Prelude.{◌≡◌, ℕ, zero, suc, ◌+◌, ◌-◌, ◌^◌, max, Bool, ◌&&◌, cond, ◌==◌, nat_lt, nat_le, List, [], ◌∷◌, length, Option, Some, None}
use Rattle.voice_model.specs.State.{class_number}
use Rattle.disk_areas.specs.Numbers.{number_at}
use Rattle.voice_model.specs.Spelling.{class_of, change_in}
use Rattle.voice_units.specs.declared.pieces.Piece.{Piece}
use Rattle.change_codec.specs.declared.items.Rising.{Rising}
use Rattle.change_codec.specs.declared.items.Run.{Run}
use Rattle.change_codec.specs.declared.errors.GetError.{GetError}
use Rattle.change_codec.specs.declared.errors.GetError.TheVariants.{NotAChange, NoMemory}

-- ---- fields

-- the first place of a list
abbrev pub first : List (Option ℕ) → Option ℕ
first [] = None
first (None ∷ places) = first places
first (Some place ∷ places) = Some place

-- a number in `width` bytes from a place on, which lies in a range: its place where it does not, and the length of all bytes where it is not whole
unfoldable pub number : ℕ → ℕ → ℕ → ℕ → List ℕ → Option ℕ
number at width least most bytes =
    cond (nat_le (at + width) (length bytes)) (cond (nat_le least (number_at width at bytes) && nat_le (number_at width at bytes) most) None (Some at)) (Some (length bytes))

-- n bytes of any value
unfoldable pub part : ℕ → ℕ → List ℕ → Option ℕ
part at n bytes = cond (nat_le (at + n) (length bytes)) None (Some (length bytes))

-- a byte behind the last field
unfoldable pub behind : ℕ → List ℕ → Option ℕ
behind at bytes = cond (nat_lt at (length bytes)) (Some at) None

-- ---- lists

-- so many items one after another and nothing behind them; a state says where an item stands and what it has to know of those before it
unfoldable pub each : {S : Type 0} → (S → Option ℕ) → (S → S) → (S → Option ℕ) → ℕ → S → Option ℕ
each item next stop zero s = stop s
each item next stop (suc count) s = first (item s ∷ each item next stop count (next s) ∷ [])

-- addresses

abbrev pub addresses_place : ℕ → ℕ → ℕ → List ℕ → Option ℕ
addresses_place width count at bytes = each (λ at. part at width bytes) (λ at. at + width) (λ at. behind at bytes) count at

-- the state behind the number of a rope
abbrev pub next_id : List ℕ → Rising → Rising
next_id bytes r = record { at = r.at + 8; least = number_at 8 r.at bytes + 1 }

-- numbers of ropes, which rise

abbrev pub ids_place : ℕ → ℕ → List ℕ → Option ℕ
ids_place count at bytes = each (λ r. number r.at 8 r.least (2 ^ 48) bytes) (next_id bytes) (λ r. behind r.at bytes) count (record { at = at; least = 1 })

-- an index and an address
abbrev pub pair_place : ℕ → List ℕ → Rising → Option ℕ
pair_place width bytes r = first (number r.at 4 r.least (2 ^ 32) bytes ∷ part (r.at + 4) width bytes ∷ [])

-- the state behind them
abbrev pub next_pair : ℕ → List ℕ → Rising → Rising
next_pair width bytes r = record { at = r.at + 4 + width; least = number_at 4 r.at bytes + 1 }

-- pairs, whose indices rise

abbrev pub pairs_place : ℕ → ℕ → ℕ → List ℕ → Option ℕ
pairs_place width count at bytes = each (pair_place width bytes) (next_pair width bytes) (λ r. behind r.at bytes) count (record { at = at; least = 0 })

-- whether a piece goes on where the one before it ended
abbrev pub continues : List ℕ → Run → Bool
continues bytes r = (r.file == number_at 8 r.at bytes) && (r.last == number_at 4 (r.at + 8) bytes)

-- a piece: its file; its place in it, where it does not go on; its length, with which neither the piece nor the sum passes 2^30
abbrev pub piece_place : List ℕ → Run → Option ℕ
piece_place bytes r =
    first (
    number r.at 8 1 (2 ^ 48) bytes
    ∷ part (r.at + 8) 4 bytes
    ∷ cond (continues bytes r) (Some (r.at + 8)) None
    ∷ number (r.at + 12) 4 1 (2 ^ 30 - max (number_at 4 (r.at + 8) bytes) r.sum) bytes
    ∷ [])

-- what a piece says
abbrev pub piece_in : List ℕ → Run → Piece
piece_in bytes r = record { file = number_at 8 r.at bytes; from = number_at 4 (r.at + 8) bytes; len = number_at 4 (r.at + 12) bytes }

-- the state behind a piece that says this
abbrev pub past : Run → Piece → Run
past r piece = record { at = r.at + 16; file = piece.file; last = piece.from + piece.len; sum = r.sum + piece.len }

-- the state behind a piece
abbrev pub next_piece : List ℕ → Run → Run
next_piece bytes r = past r (piece_in bytes r)

-- so many pieces

abbrev pub run_place : ℕ → ℕ → List ℕ → Option ℕ
run_place count at bytes = each (piece_place bytes) (next_piece bytes) (λ r. behind r.at bytes) count (record { at = at; file = 0; last = 0; sum = 0 })

-- at most 4096 pieces with their count in front

abbrev pub pieces_place : ℕ → List ℕ → Option ℕ
pieces_place at bytes = first (number at 2 0 4096 bytes ∷ run_place (number_at 2 at bytes) (at + 2) bytes ∷ [])

-- a key with its length in front
abbrev pub key_place : List ℕ → ℕ → Option ℕ
key_place bytes at = first (number at 1 1 64 bytes ∷ part (at + 1) (number_at 1 at bytes) bytes ∷ [])

-- the place behind it
abbrev pub next_key : List ℕ → ℕ → ℕ
next_key bytes at = at + 1 + number_at 1 at bytes

-- keys

abbrev pub keys_place : ℕ → ℕ → List ℕ → Option ℕ
keys_place count at bytes = each (key_place bytes) (next_key bytes) (λ at. behind at bytes) count at

-- the bytes of a note: where the class is until they spell a moment
abbrev pub note_part : Bool → ℕ → ℕ → List ℕ → Option ℕ
note_part until at n bytes = cond until (number at 8 0 (2 ^ 40) bytes) (part at n bytes)

-- a note with its length in front: 8 bytes where the class is until, at most 128 bytes elsewhere
abbrev pub note_place : Bool → ℕ → List ℕ → Option ℕ
note_place until at bytes =
    first (number at 1 (cond until 8 0) (cond until 8 128) bytes ∷ note_part until (at + 1) (number_at 1 at bytes) bytes ∷ behind (at + 1 + number_at 1 at bytes) bytes ∷ [])

-- ---- kinds

-- the recording of a rope
abbrev pub recorded_place : ℕ → List ℕ → Option ℕ
recorded_place width bytes =
    first (number 1 8 1 (2 ^ 48) bytes ∷ number 9 4 0 (2 ^ 30) bytes ∷ part 13 4 bytes ∷ addresses_place width (number_at 4 13 bytes) 17 bytes ∷ [])

-- an edit
abbrev pub edited_place : List ℕ → Option ℕ
edited_place bytes = first (number 1 8 1 (2 ^ 48) bytes ∷ pieces_place 9 bytes ∷ [])

-- an interest that comes
abbrev pub retained_place : List ℕ → Option ℕ
retained_place bytes =
    let n = number_at 1 2 bytes in
    first (number 1 1 1 3 bytes ∷ key_place bytes 2 ∷ number (3 + n) 8 1 (2 ^ 48) bytes ∷ note_place (class_number (class_of (number_at 1 1 bytes)) == 2) (11 + n) bytes ∷ [])

-- an interest that goes
abbrev pub forgotten_place : List ℕ → Option ℕ
forgotten_place bytes = first (number 1 1 1 3 bytes ∷ key_place bytes 2 ∷ behind (3 + number_at 1 2 bytes) bytes ∷ [])

-- a census
abbrev pub census_place : List ℕ → Option ℕ
census_place bytes = first (number 1 2 1 (2 ^ 16) bytes ∷ keys_place (number_at 2 1 bytes) 3 bytes ∷ [])

-- a sweep
abbrev pub swept_place : List ℕ → Option ℕ
swept_place bytes = first (part 1 2 bytes ∷ ids_place (number_at 2 1 bytes) 3 bytes ∷ [])

-- a moment that comes
abbrev pub advanced_place : List ℕ → Option ℕ
advanced_place bytes = first (number 1 8 1 (2 ^ 40) bytes ∷ behind 9 bytes ∷ [])

-- the head of a base
abbrev pub base_place : List ℕ → Option ℕ
base_place bytes = first (number 1 8 0 (2 ^ 40) bytes ∷ number 9 8 1 (2 ^ 48 + 1) bytes ∷ behind 17 bytes ∷ [])

-- the blocks of a file
abbrev pub file_place : ℕ → List ℕ → Option ℕ
file_place width bytes = first (number 1 8 1 (2 ^ 48) bytes ∷ number 9 4 1 (2 ^ 32) bytes ∷ pairs_place width (number_at 4 9 bytes) 13 bytes ∷ [])

-- a rope of a base
abbrev pub rope_place : List ℕ → Option ℕ
rope_place bytes = first (number 1 8 1 (2 ^ 48) bytes ∷ number 9 8 0 (2 ^ 40) bytes ∷ pieces_place 17 bytes ∷ [])

-- the same with a class
abbrev pub rope2_place : List ℕ → Option ℕ
rope2_place bytes = first (number 1 8 1 (2 ^ 48) bytes ∷ number 9 8 0 (2 ^ 40) bytes ∷ number 17 1 0 3 bytes ∷ pieces_place 18 bytes ∷ [])

-- the place in a row of places
abbrev pub place_at : List (Option ℕ) → ℕ → Option ℕ
place_at [] n = None
place_at (place ∷ places) zero = place
place_at (place ∷ places) (suc n) = place_at places n

-- the place behind each kind, from 0 on
abbrev pub places_by_kind : List ℕ → List (Option ℕ)
places_by_kind bytes =
    None
    ∷ recorded_place 2 bytes
    ∷ edited_place bytes
    ∷ retained_place bytes
    ∷ forgotten_place bytes
    ∷ census_place bytes
    ∷ swept_place bytes
    ∷ advanced_place bytes
    ∷ base_place bytes
    ∷ file_place 2 bytes
    ∷ rope_place bytes
    ∷ recorded_place 4 bytes
    ∷ base_place bytes
    ∷ file_place 4 bytes
    ∷ rope2_place bytes
    ∷ []

-- the place of the first field that breaks the grammar
unfoldable pub refused : List ℕ → Option ℕ
refused bytes = first (number 0 1 1 14 bytes ∷ place_at (places_by_kind bytes) (number_at 1 0 bytes) ∷ [])

-- ---- errors

-- an error names the place, except for want of memory
abbrev pub IsPlace : Option ℕ → GetError → Type 0
IsPlace found (NotAChange place) = found ≡ Some place
IsPlace found NoMemory = Unit {0}

-- it says that no change is spelled, and where
abbrev pub IsRefusal : List ℕ → GetError → Type 0
IsRefusal bytes (NotAChange place) = (change_in bytes ≡ None) × (refused bytes ≡ Some place)
IsRefusal bytes NoMemory = Unit {0}
