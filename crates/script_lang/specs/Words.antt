-- Lines and words of a script.
--     lines_of bytes      the lines, each ended by the byte 0A, which the last may lack; one 0D at a line's end is left out
--     words_of line      the words, at runs of spaces and tabs
--     IsQuiet line      no word, or a first word that begins with `#`
--     IsPlain line      only bytes 21 to 7E besides spaces and tabs
--     is_clean bytes      no line of these holds another byte
use Rattle.std.specs.Prelude.{ℕ, List, [], ◌∷◌, ◌-◌, Bool, true, false, ◌&&◌, ◌||◌, ◌==◌, nat_le, if◌then◌else◌, map, length, take, slice_index}
use Rattle.std.specs.List.{filter, list_all}

abbrev pub push_front : ℕ → List (List ℕ) → List (List ℕ)
push_front b [] = (b ∷ []) ∷ []
push_front b (l ∷ ls) = (b ∷ l) ∷ ls

-- the parts that bytes of some kind end, which the last may lack
abbrev pub parts : (ℕ → Bool) → List ℕ → List (List ℕ)
parts ends [] = []
parts ends (b ∷ bytes) = if ends b then [] ∷ parts ends bytes else push_front b (parts ends bytes)

abbrev pub is_end : ℕ → Bool
is_end b = b == 10

abbrev pub is_blank : ℕ → Bool
is_blank b = (b == 32) || (b == 9)

abbrev pub without_return : List ℕ → List ℕ
without_return line = if slice_index line (length line - 1) == 13 then take (length line - 1) line else line

abbrev pub lines_of : List ℕ → List (List ℕ)
lines_of bytes = map without_return (parts is_end bytes)

abbrev pub some_bytes : List ℕ → Bool
some_bytes [] = false
some_bytes (b ∷ bytes) = true

abbrev pub words_of : List ℕ → List (List ℕ)
words_of line = filter some_bytes (parts is_blank line)

-- no word, or a first word that begins with `#`
abbrev pub are_quiet : List (List ℕ) → Bool
are_quiet [] = true
are_quiet (word ∷ words) = slice_index word 0 == 35

abbrev pub is_plain_byte : ℕ → Bool
is_plain_byte b = (nat_le 33 b && nat_le b 126) || is_blank b

abbrev pub is_plain : List ℕ → Bool
is_plain line = list_all is_plain_byte line

-- such a byte, or the end of a line
abbrev pub is_clean_byte : ℕ → Bool
is_clean_byte b = is_plain_byte b || is_end b

-- no line of these bytes holds another byte than printed ones, spaces and tabs
abbrev pub is_clean : List ℕ → Bool
is_clean bytes = list_all is_clean_byte bytes
