-- The forms of words.
use Rattle.std.specs.Prelude.{ℕ, List, [], ◌∷◌, Bool, ◌&&◌, ◌||◌, ◌==◌, nat_lt, nat_le, length, slice_index, Option, Some, None, if◌then◌else◌, ◌+◌, ◌-◌, ◌*◌, codes}
use Rattle.std.specs.Str.{bytes_eq}
use Rattle.voice_model.specs.declared.calls.Class.{Class}
use Rattle.voice_model.specs.declared.calls.Class.TheVariants as classes
use Rattle.std.specs.List.{list_all}

abbrev pub is_letter : ℕ → Bool
is_letter c = (nat_le 97 c && nat_le c 122) || (nat_le 65 c && nat_le c 90)

-- a letter, a digit or `_`
abbrev pub is_word_byte : ℕ → Bool
is_word_byte c = is_letter c || (nat_le 48 c && nat_le c 57) || (c == 95)

-- that, `.` or `-`
abbrev pub is_name_byte : ℕ → Bool
is_name_byte c = is_word_byte c || (c == 46) || (c == 45)

abbrev pub is_short : List ℕ → Bool
is_short word = nat_lt 0 (length word) && nat_le (length word) 64

-- a letter, then up to 63 letters, digits or `_`
abbrev pub is_var : List ℕ → Bool
is_var word = is_short word && is_letter (slice_index word 0) && list_all is_word_byte word

abbrev pub is_key : List ℕ → Bool
is_key word = is_short word && list_all is_name_byte word

-- the same, beginning with a letter, a digit or `_`
abbrev pub is_file : List ℕ → Bool
is_file word = is_short word && is_word_byte (slice_index word 0) && list_all is_name_byte word

abbrev pub hex_value : ℕ → Option ℕ
hex_value c = if nat_le 48 c && nat_le c 57 then Some (c - 48) else (if nat_le 97 c && nat_le c 102 then Some (c - 87) else None)

abbrev pub one_more : Option ℕ → Option ℕ → Option (List ℕ) → Option (List ℕ)
one_more (Some high) (Some low) (Some bytes) = Some ((16 * high + low) ∷ bytes)
one_more _ _ _ = None

-- the bytes that pairs of hex digits write
abbrev pub hex_of : List ℕ → Option (List ℕ)
hex_of [] = Some []
hex_of (a ∷ []) = None
hex_of (a ∷ (b ∷ digits)) = one_more (hex_value a) (hex_value b) (hex_of digits)

-- a dash for none
unfoldable pub note_of : List ℕ → Option (List ℕ)
note_of word = if bytes_eq word (codes "-") then Some [] else (if nat_lt 0 (length word) && nat_le (length word) 256 then hex_of word else None)

unfoldable pub class_of : List ℕ → Option Class
class_of word =
    if bytes_eq word (codes "held") then Some classes.Held
    else (if bytes_eq word (codes "until") then Some classes.Until
    else (if bytes_eq word (codes "listed") then Some classes.Listed
    else None))
