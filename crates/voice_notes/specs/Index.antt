-- The names of an index, by the rules for the lines of a script.
--     line_says line      what a line says: nothing, one FILE, or something else
--     names_in bytes      the names that the lines say, in order
--     bad_line bytes      the first line, from 1, that says something else or is line 65,536
use Rattle.std.specs.Prelude.{◌≡◌, ℕ, ◌+◌, ◌-◌, Bool, ◌==◌, nat_lt, if◌then◌else◌, List, [], ◌∷◌, length, take, slice_index, Option, Some, None}
use Rattle.script_lang.specs.Words.{lines_of, words_of}
use Rattle.script_lang.specs.Forms.{is_file}
use Rattle.voice_notes.specs.declared.line.Says.{Says}
use Rattle.voice_notes.specs.declared.line.Says.TheVariants as says
use Rattle.voice_notes.specs.declared.line.Words.{Words}
use Rattle.voice_notes.specs.declared.line.Words.TheVariants as words
use Rattle.voice_notes.specs.declared.errors.IndexError.{IndexError}
use Rattle.voice_notes.specs.declared.errors.IndexError.TheVariants as errors

abbrev pub is_comment : List ℕ → Bool
is_comment word = slice_index word 0 == 35

abbrev pub word_says : List ℕ → Says
word_says word = if is_comment word then says.Nothing else (if is_file word then says.File word else says.Other)

-- what the words of a line say
abbrev pub words_say : List (List ℕ) → Says
words_say [] = says.Nothing
words_say (word ∷ []) = word_says word
words_say (word ∷ (second ∷ rest)) = if is_comment word then says.Nothing else says.Other

abbrev pub line_says : List ℕ → Says
line_says line = words_say (words_of line)

abbrev pub with_said : Says → List (List ℕ) → List (List ℕ)
with_said (says.File name) names = name ∷ names
with_said _ names = names

-- the names that lines say, in order
abbrev pub names_on : List (List ℕ) → List (List ℕ)
names_on [] = []
names_on (line ∷ lines) = with_said (line_says line) (names_on lines)

abbrev pub names_in : List ℕ → List (List ℕ)
names_in bytes = names_on (lines_of bytes)

-- a line behind number 65,535 says something else, whatever it is
abbrev pub line_said : ℕ → List ℕ → Says
line_said number line = if nat_lt 65535 number then says.Other else line_says line

-- that line where it says something else, and else a later one
abbrev pub or_later : Says → ℕ → Option ℕ → Option ℕ
or_later says.Other number later = Some number
or_later _ number later = later

-- the first bad line, where the first of these has this number
abbrev pub bad_from : ℕ → List (List ℕ) → Option ℕ
bad_from number [] = None
bad_from number (line ∷ lines) = or_later (line_said number line) number (bad_from (number + 1) lines)

abbrev pub bad_line : List ℕ → Option ℕ
bad_line bytes = bad_from 1 (lines_of bytes)

-- the bytes without a 0A at their end
abbrev pub without_end : List ℕ → List ℕ
without_end bytes = if slice_index bytes (length bytes - 1) == 10 then take (length bytes - 1) bytes else bytes

-- these are the words, as far as they are told
abbrev pub HasWords : Words → List (List ℕ) → Type 0
HasWords words.None all = all ≡ []
HasWords (words.One word) all = all ≡ word.now ∷ []
HasWords (words.More word) all = (second : List ℕ) × (rest : List (List ℕ)) × (all ≡ word.now ∷ (second ∷ rest))

-- why an index is refused
abbrev pub IsCause : List ℕ → IndexError → Type 0
IsCause bytes (errors.BadIndex number) = bad_line bytes ≡ Some number
IsCause bytes errors.NoMemory = Unit {0}
