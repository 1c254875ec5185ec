-- Anchors of a note.
--     IsAnchor bytes key      the bytes begin with `[[voice:`, the key and `]]`
--     front_of bytes      what stands at the front of the bytes
--     anchored bytes      the keys of the anchors, in the order of their places
--     bad_place bytes      the first place at which `[[voice:` stands and no anchor does
--     with_keys keys found      the list with those found that are not in it yet
use Rattle.std.specs.Prelude.{◌≡◌, ℕ, ◌+◌, Bool, true, not, ◌&&◌, if◌then◌else◌, List, [], ◌∷◌, ◌++◌, take, drop, codes, Option, Some, None}
use Rattle.std.specs.Str.{bytes_eq}
use Rattle.std.specs.List.{list_any, position_or_len}
use Rattle.script_lang.specs.Forms.{is_name_byte, is_short, is_key}
use Rattle.voice_notes.specs.declared.front.Front.{Front}
use Rattle.voice_notes.specs.declared.front.Front.TheVariants as fronts
use Rattle.voice_notes.specs.declared.errors.NoteError.{NoteError}
use Rattle.voice_notes.specs.declared.errors.NoteError.TheVariants as errors

-- what an anchor begins with, and what it ends with
abbrev pub opening : List ℕ
opening = codes "[[voice:"

abbrev pub closing : List ℕ
closing = codes "]]"

-- the bytes begin with others
abbrev pub Begins : List ℕ → List ℕ → Type 0
Begins front bytes = (rest : List ℕ) × (bytes ≡ front ++ rest)

-- an anchor of that key stands at the front of the bytes
abbrev pub IsAnchor : List ℕ → List ℕ → Type 0
IsAnchor bytes key = (is_key key ≡ true) × Begins (opening ++ key ++ closing) bytes

-- ---- what stands at the front of some bytes

abbrev pub ends_key : ℕ → Bool
ends_key b = not (is_name_byte b)

-- how many bytes of a key stand at the front
abbrev pub run : List ℕ → ℕ
run bytes = position_or_len ends_key bytes

-- what `[[voice:` means with these bytes behind it
abbrev pub behind_opening : List ℕ → Front
behind_opening bytes =
    if bytes_eq closing (take 2 (drop (run bytes) bytes)) && is_short (take (run bytes) bytes) then fronts.Anchor (take (run bytes) bytes) else fronts.Bad

abbrev pub front_of : List ℕ → Front
front_of bytes = if bytes_eq (take 8 bytes) opening then behind_opening (drop 8 bytes) else fronts.Other

-- ---- all of a note

abbrev pub with_front : Front → List (List ℕ) → List (List ℕ)
with_front (fronts.Anchor key) keys = key ∷ keys
with_front _ keys = keys

-- the keys of the anchors, in the order of their places
abbrev pub anchored : List ℕ → List (List ℕ)
anchored [] = []
anchored (b ∷ bytes) = with_front (front_of (b ∷ bytes)) (anchored bytes)

-- that place where the front is bad, and else a later one
abbrev pub or_later : Front → ℕ → Option ℕ → Option ℕ
or_later fronts.Bad place later = Some place
or_later _ place later = later

-- the first bad place, where the first byte stands at this place
abbrev pub bad_from : ℕ → List ℕ → Option ℕ
bad_from place [] = None
bad_from place (b ∷ bytes) = or_later (front_of (b ∷ bytes)) place (bad_from (place + 1) bytes)

abbrev pub bad_place : List ℕ → Option ℕ
bad_place bytes = bad_from 0 bytes

-- ---- keys, each once

abbrev pub has_key : List (List ℕ) → List ℕ → Bool
has_key keys key = list_any (bytes_eq key) keys

-- a key comes last, unless it is in the list
abbrev pub with_key : List (List ℕ) → List ℕ → List (List ℕ)
with_key keys key = if has_key keys key then keys else keys ++ key ∷ []

abbrev pub with_keys : List (List ℕ) → List (List ℕ) → List (List ℕ)
with_keys keys [] = keys
with_keys keys (key ∷ found) = with_keys (with_key keys key) found

-- two lists have the same keys
abbrev pub SameKeys : List (List ℕ) → List (List ℕ) → Type 0
SameKeys keys others = (key : List ℕ) → has_key keys key ≡ has_key others key

-- ---- why a note is refused

abbrev pub IsCause : List ℕ → NoteError → Type 0
IsCause bytes (errors.BadAnchor place) = bad_place bytes ≡ Some place
IsCause bytes errors.NoMemory = Unit {0}
