-- The laws of notes and indexes, as statements.
--     AnchorsStand      what stands at the front of some bytes is an anchor of one key, or not
--     PlacesAreFirst      the bad place of a note is the first at which `[[voice:` stands and no anchor does
--     KeysComeOnce      a list grows by the keys that it lacks, each once
--     LinesAreFirst      the bad line of an index is the first that is neither quiet nor one FILE, or line 65,536
use Rattle.std.specs.Prelude.{◌≡◌, ℕ, ◌+◌, ◌<◌, ◌≤◌, ◌⊎◌, ◌↔◌, true, false, ◌||◌, List, [], ◌∷◌, ◌++◌, length, drop, Some, None}
use Rattle.voice_notes.specs.declared.front.Front.TheVariants as fronts
use Rattle.script_lang.specs.Words.{words_of, are_quiet}
use Rattle.script_lang.specs.Forms.{is_file}
use Rattle.voice_notes.specs.Anchors.{opening, Begins, IsAnchor, front_of, bad_place, has_key, with_keys}
use Rattle.voice_notes.specs.Index.{bad_from}

-- `[[voice:` stands at the front, and no anchor does
abbrev pub IsBad : List ℕ → Type 0
IsBad bytes = Begins opening bytes × ((key : List ℕ) → ¬ IsAnchor bytes key)

-- what stands at the front of some bytes is an anchor of one key, or not
pub record AnchorsStand : Type 0 where
  pub anchor : (bytes key : List ℕ) → (front_of bytes ≡ fronts.Anchor key) ↔ IsAnchor bytes key
  pub bad : (bytes : List ℕ) → (front_of bytes ≡ fronts.Bad) ↔ IsBad bytes

-- the bytes from a place on are bad, and from no earlier place
pub record IsFirstBad (bytes : List ℕ) (place : ℕ) : Type 0 where
  pub bad : IsBad (drop place bytes)
  pub first : (earlier : ℕ) → earlier < place → ¬ IsBad (drop earlier bytes)

pub record PlacesAreFirst : Type 0 where
  pub found : (bytes : List ℕ) (place : ℕ) → (bad_place bytes ≡ Some place) ↔ IsFirstBad bytes place
  pub none : (bytes : List ℕ) → bad_place bytes ≡ None → (place : ℕ) → ¬ IsBad (drop place bytes)

-- no key twice
abbrev pub Once : List (List ℕ) → Type 0
Once [] = Unit {0}
Once (key ∷ keys) = (has_key keys key ≡ false) × Once keys

pub record KeysComeOnce : Type 0 where
  -- the list stands in front of what comes
  pub front : (keys found : List (List ℕ)) → (new : List (List ℕ)) × (with_keys keys found ≡ keys ++ new)
  -- a key is there where it was, or was found
  pub each : (keys found : List (List ℕ)) (key : List ℕ) → has_key (with_keys keys found) key ≡ (has_key keys key || has_key found key)
  -- none comes twice
  pub once : (keys found : List (List ℕ)) → Once keys → Once (with_keys keys found)
  -- what was found earlier comes earlier
  pub order : (keys found later : List (List ℕ)) → with_keys keys (found ++ later) ≡ with_keys (with_keys keys found) later

-- that line is neither empty nor a comment, and is not one FILE
abbrev pub IsOther : List ℕ → Type 0
IsOther line = (are_quiet (words_of line) ≡ false) × ((name : List ℕ) → is_file name ≡ true → ¬ (words_of line ≡ name ∷ []))

-- line k of these, from 1, is the first such one, or is line 65,536
pub record IsFirstOther (lines : List (List ℕ)) (k : ℕ) : Type 0 where
  pub front : List (List ℕ)
  pub line : List ℕ
  pub rest : List (List ℕ)
  pub whole : lines ≡ front ++ line ∷ rest
  pub number : k ≡ 1 + length front
  pub bad : IsOther line ⊎ (k ≡ 65536)
  pub first : (before : List (List ℕ)) (earlier : List ℕ) (after : List (List ℕ)) → front ≡ before ++ earlier ∷ after → ¬ IsOther earlier
  pub few : length front ≤ 65535

pub record LinesAreFirst : Type 0 where
  pub found : (lines : List (List ℕ)) (k : ℕ) → (bad_from 1 lines ≡ Some k) ↔ IsFirstOther lines k
