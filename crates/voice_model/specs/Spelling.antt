-- How a change is spelled in the journal.
--     spelling c      the bytes of a change
--     keeps_grammar c      whether its fields lie in their ranges
--     change_in bytes      the change that bytes spell, none where they spell none
use Rattle.std.specs.Prelude.{◌≡◌, ℕ, zero, suc, ◌+◌, ◌^◌, Bool, true, false, ◌&&◌, ◌||◌, not, cond, ◌==◌, nat_lt, nat_le, List, [], ◌∷◌, ◌++◌, map, length, take, drop, flat_map, bytes_eq, Option, Some, None}
use Rattle.std.specs.List.{list_all}
use Rattle.voice_units.specs.declared.pieces.Piece.{Piece}
use Rattle.voice_units.specs.Spots.{slice, samples_in}
use Rattle.disk_areas.specs.Numbers.{spelled_number, number_at, number_bytes}
use Rattle.voice_model.specs.State.{class_number}
use Rattle.voice_model.specs.Talk.{parts}
use Rattle.voice_model.specs.declared.lists.Pair.{Pair}
use Rattle.voice_model.specs.declared.changes.Change.{Change}
use Rattle.voice_model.specs.declared.changes.Change.TheVariants as changes
use Rattle.voice_model.specs.declared.calls.Class.{Class}
use Rattle.voice_model.specs.declared.calls.Class.TheVariants.{Held, Until, Listed}

-- ---- the bytes of a change

abbrev pub piece_bytes : Piece → List ℕ
piece_bytes p = number_bytes 8 p.file ++ number_bytes 4 p.from ++ number_bytes 4 p.len

abbrev pub pieces_bytes : List Piece → List ℕ
pieces_bytes ps = number_bytes 2 (length ps) ++ flat_map piece_bytes ps

-- a short text with its length in front
abbrev pub text_bytes : List ℕ → List ℕ
text_bytes text = number_bytes 1 (length text) ++ text

abbrev pub recorded_bytes : ℕ → ℕ → ℕ → List ℕ → List ℕ
recorded_bytes width id len addresses = number_bytes 8 id ++ number_bytes 4 len ++ number_bytes 4 (length addresses) ++ flat_map (number_bytes width) addresses

abbrev pub pair_bytes : ℕ → Pair → List ℕ
pair_bytes width pair = number_bytes 4 pair.index ++ number_bytes width pair.address

abbrev pub file_bytes : ℕ → ℕ → List Pair → List ℕ
file_bytes width file pairs = number_bytes 8 file ++ number_bytes 4 (length pairs) ++ flat_map (pair_bytes width) pairs

abbrev pub spelling : Change → List ℕ
spelling (changes.Recorded id len addresses) = number_bytes 1 1 ++ recorded_bytes 2 id len addresses
spelling (changes.Edited id pieces) = number_bytes 1 2 ++ number_bytes 8 id ++ pieces_bytes pieces
spelling (changes.Retained class key id note) = number_bytes 1 3 ++ number_bytes 1 (class_number class) ++ text_bytes key ++ number_bytes 8 id ++ text_bytes note
spelling (changes.Forgotten class key) = number_bytes 1 4 ++ number_bytes 1 (class_number class) ++ text_bytes key
spelling (changes.Census keys) = number_bytes 1 5 ++ number_bytes 2 (length keys) ++ flat_map text_bytes keys
spelling (changes.Swept ids) = number_bytes 1 6 ++ number_bytes 2 (length ids) ++ flat_map (number_bytes 8) ids
spelling (changes.Advanced moment) = number_bytes 1 7 ++ number_bytes 8 moment
spelling (changes.Base now next) = number_bytes 1 8 ++ number_bytes 8 now ++ number_bytes 8 next
spelling (changes.File file pairs) = number_bytes 1 9 ++ file_bytes 2 file pairs
spelling (changes.Rope id idle pieces) = number_bytes 1 10 ++ number_bytes 8 id ++ number_bytes 8 idle ++ pieces_bytes pieces
spelling (changes.Wide id len addresses) = number_bytes 1 11 ++ recorded_bytes 4 id len addresses
spelling (changes.Base2 now next) = number_bytes 1 12 ++ number_bytes 8 now ++ number_bytes 8 next
spelling (changes.File2 file pairs) = number_bytes 1 13 ++ file_bytes 4 file pairs
spelling (changes.Rope2 id idle last pieces) = number_bytes 1 14 ++ number_bytes 8 id ++ number_bytes 8 idle ++ number_bytes 1 last ++ pieces_bytes pieces

-- ---- the ranges of its fields

-- the number of a rope or of a voice file
abbrev pub is_id : ℕ → Bool
is_id n = nat_le 1 n && nat_le n (2 ^ 48)

abbrev pub is_moment : ℕ → Bool
is_moment n = nat_le n (2 ^ 40)

abbrev pub is_next : ℕ → Bool
is_next n = nat_le 1 n && nat_le n (2 ^ 48 + 1)

abbrev pub fits : ℕ → ℕ → Bool
fits width n = nat_lt n (256 ^ width)

-- numbers that rise strictly
abbrev pub rise : List ℕ → Bool
rise [] = true
rise (a ∷ []) = true
rise (a ∷ b ∷ rest) = nat_lt a b && rise (b ∷ rest)

abbrev pub is_piece : Piece → Bool
is_piece p = is_id p.file && nat_le 1 p.len && nat_le (p.from + p.len) (2 ^ 30)

-- no piece is continued by the next one
abbrev pub are_apart : List Piece → Bool
are_apart [] = true
are_apart (p ∷ []) = true
are_apart (p ∷ q ∷ ps) = not ((p.file == q.file) && (p.from + p.len == q.from)) && are_apart (q ∷ ps)

abbrev pub are_pieces : List Piece → Bool
are_pieces ps = nat_le (length ps) 4096 && list_all is_piece ps && nat_le (samples_in ps) (2 ^ 30) && are_apart ps

abbrev pub is_key : List ℕ → Bool
is_key key = nat_le 1 (length key) && nat_le (length key) 64

-- a note, which spells a moment in 8 bytes where the class is Until
abbrev pub is_note : Class → List ℕ → Bool
is_note class note = nat_le (length note) 128 && (not (class_number class == 2) || ((length note == 8) && is_moment (spelled_number note)))

abbrev pub is_recording : ℕ → ℕ → ℕ → List ℕ → Bool
is_recording width id len addresses = is_id id && nat_le len (2 ^ 30) && fits 4 (length addresses) && list_all (fits width) addresses

abbrev pub is_file : ℕ → ℕ → List Pair → Bool
is_file width file pairs =
    is_id file && nat_le 1 (length pairs) && fits 4 (length pairs) && list_all (λ pair. fits 4 pair.index && fits width pair.address) pairs && rise (map (λ pair. pair.index) pairs)

abbrev pub keeps_grammar : Change → Bool
keeps_grammar (changes.Recorded id len addresses) = is_recording 2 id len addresses
keeps_grammar (changes.Edited id pieces) = is_id id && are_pieces pieces
keeps_grammar (changes.Retained class key id note) = is_key key && is_id id && is_note class note
keeps_grammar (changes.Forgotten class key) = is_key key
keeps_grammar (changes.Census keys) = nat_le 1 (length keys) && fits 2 (length keys) && list_all is_key keys
keeps_grammar (changes.Swept ids) = fits 2 (length ids) && list_all is_id ids && rise ids
keeps_grammar (changes.Advanced moment) = nat_le 1 moment && is_moment moment
keeps_grammar (changes.Base now next) = is_moment now && is_next next
keeps_grammar (changes.File file pairs) = is_file 2 file pairs
keeps_grammar (changes.Rope id idle pieces) = is_id id && is_moment idle && are_pieces pieces
keeps_grammar (changes.Wide id len addresses) = is_recording 4 id len addresses
keeps_grammar (changes.Base2 now next) = is_moment now && is_next next
keeps_grammar (changes.File2 file pairs) = is_file 4 file pairs
keeps_grammar (changes.Rope2 id idle last pieces) = is_id id && is_moment idle && nat_le last 3 && are_pieces pieces

-- the bytes spell the change
pub record Spells (bytes : List ℕ) (c : Change) : Type 0 where
  pub bytes_of : bytes ≡ spelling c
  pub grammar : keeps_grammar c ≡ true

-- ---- the change that bytes spell

-- the bytes from a place on, in parts of one width
abbrev pub parts_from : ℕ → ℕ → List ℕ → List (List ℕ)
parts_from width from bytes = parts width (length bytes) (drop from bytes)

abbrev pub read_numbers : ℕ → ℕ → List ℕ → List ℕ
read_numbers width from bytes = map spelled_number (parts_from width from bytes)

abbrev pub read_piece : List ℕ → Piece
read_piece bytes = record { file = number_at 8 0 bytes; from = number_at 4 8 bytes; len = number_at 4 12 bytes }

abbrev pub read_pieces : ℕ → List ℕ → List Piece
read_pieces from bytes = map read_piece (parts_from 16 from bytes)

abbrev pub read_pair : ℕ → List ℕ → Pair
read_pair width bytes = record { index = number_at 4 0 bytes; address = number_at width 4 bytes }

abbrev pub read_pairs : ℕ → ℕ → List ℕ → List Pair
read_pairs width from bytes = map (read_pair width) (parts_from (4 + width) from bytes)

-- texts with their lengths in front, at most `most`
abbrev pub read_texts : ℕ → List ℕ → List (List ℕ)
read_texts zero bytes = []
read_texts (suc most) [] = []
read_texts (suc most) (n ∷ bytes) = take n bytes ∷ read_texts most (drop n bytes)

abbrev pub class_of : ℕ → Class
class_of n = cond (n == 1) Held (cond (n == 2) Until Listed)

abbrev pub read_retained : ℕ → List ℕ → Change
read_retained n bytes = changes.Retained (class_of (number_at 1 1 bytes)) (slice bytes 3 n) (number_at 8 (3 + n) bytes) (drop (12 + n) bytes)

-- for each kind, from 0 on, a change that has its fields at their places, whatever the bytes are
abbrev pub fields_by_kind : List ℕ → List (Option Change)
fields_by_kind bytes =
    None
    ∷ Some (changes.Recorded (number_at 8 1 bytes) (number_at 4 9 bytes) (read_numbers 2 17 bytes))
    ∷ Some (changes.Edited (number_at 8 1 bytes) (read_pieces 11 bytes))
    ∷ Some (read_retained (number_at 1 2 bytes) bytes)
    ∷ Some (changes.Forgotten (class_of (number_at 1 1 bytes)) (drop 3 bytes))
    ∷ Some (changes.Census (read_texts (length bytes) (drop 3 bytes)))
    ∷ Some (changes.Swept (read_numbers 8 3 bytes))
    ∷ Some (changes.Advanced (number_at 8 1 bytes))
    ∷ Some (changes.Base (number_at 8 1 bytes) (number_at 8 9 bytes))
    ∷ Some (changes.File (number_at 8 1 bytes) (read_pairs 2 13 bytes))
    ∷ Some (changes.Rope (number_at 8 1 bytes) (number_at 8 9 bytes) (read_pieces 19 bytes))
    ∷ Some (changes.Wide (number_at 8 1 bytes) (number_at 4 9 bytes) (read_numbers 4 17 bytes))
    ∷ Some (changes.Base2 (number_at 8 1 bytes) (number_at 8 9 bytes))
    ∷ Some (changes.File2 (number_at 8 1 bytes) (read_pairs 4 13 bytes))
    ∷ Some (changes.Rope2 (number_at 8 1 bytes) (number_at 8 9 bytes) (number_at 1 17 bytes) (read_pieces 20 bytes))
    ∷ []

abbrev pub at_kind : List (Option Change) → ℕ → Option Change
at_kind [] kind = None
at_kind (c ∷ cs) zero = c
at_kind (c ∷ cs) (suc kind) = at_kind cs kind

abbrev pub if_spelled : Bool → Change → Option Change
if_spelled true c = Some c
if_spelled false c = None

-- the fields are those of a change only where they spell the bytes again and lie in their ranges
abbrev pub spelled_again : List ℕ → Option Change → Option Change
spelled_again bytes None = None
spelled_again bytes (Some c) = if_spelled (bytes_eq (spelling c) bytes && keeps_grammar c) c

abbrev pub change_in : List ℕ → Option Change
change_in bytes = spelled_again bytes (at_kind (fields_by_kind bytes) (number_at 1 0 bytes))
