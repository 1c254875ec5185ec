-- A list grows by the keys that it lacks.
use Rattle.std.proofs.Common.{◌≡◌, ℕ, Bool, true, false, cond, ◌||◌, List, [], ◌∷◌, ◌++◌, refl, sym, ap, ◌∙◌, append_assoc, append-nil}
use Rattle.std.specs.Prelude.{bytes_eq}
use Rattle.std.proofs.lemmas.Slice.Eq.{bytes_eq-Decides}
use Rattle.std.proofs.lemmas.List.Folds.{list_any-append}
use Rattle.voice_notes.specs.Anchors.{has_key, with_key, with_keys}
use Rattle.voice_notes.specs.Laws.{Once, KeysComeOnce}

-- what one more key adds
abbrev gain : List (List ℕ) → List ℕ → List (List ℕ)
gain keys key = cond (has_key keys key) [] (key ∷ [])

gained : (keys : List (List ℕ)) (key : List ℕ) → with_key keys key ≡ keys ++ gain keys key
gained keys key = by (has_key keys key)
  where
    by : (b : Bool) → cond b keys (keys ++ key ∷ []) ≡ keys ++ cond b [] (key ∷ [])
    by true = sym (append-nil keys)
    by false = refl

front : (keys found : List (List ℕ)) → (new : List (List ℕ)) × (with_keys keys found ≡ keys ++ new)
front keys [] = ([], sym (append-nil keys))
front keys (key ∷ found) =
    let rest = front (with_key keys key) found in
    (gain keys key ++ rest.0, rest.1 ∙ ap (λ (all : List (List ℕ)). all ++ rest.0) (gained keys key) ∙ append_assoc keys (gain keys key) rest.0)

or_same : (a b c : Bool) → ((a || b) || c) ≡ (a || (b || c))
or_same true b c = refl
or_same false b c = refl

or_true : (a : Bool) → true ≡ (a || true)
or_true true = refl
or_true false = refl

or_none : (a : Bool) → a ≡ (a || false)
or_none true = refl
or_none false = refl

-- a key is there with one more where it was, or is that one
has_one : (keys : List (List ℕ)) (one key : List ℕ) → has_key (with_key keys one) key ≡ (has_key keys key || bytes_eq key one)
has_one keys one key = by (has_key keys one) refl
  where
    last : (b : Bool) → (has_key keys key || (b || false)) ≡ (has_key keys key || b)
    last true = refl
    last false = refl

    there : (t : Bool) → bytes_eq key one ≡ t → has_key keys one ≡ true → has_key keys key ≡ (has_key keys key || t)
    there true e h = let same : key ≡ one = (bytes_eq-Decides key one).0 e in (ap (has_key keys) same ∙ h) ∙ or_true (has_key keys key)
    there false e h = or_none (has_key keys key)

    by : (b : Bool) → has_key keys one ≡ b → has_key (cond b keys (keys ++ one ∷ [])) key ≡ (has_key keys key || bytes_eq key one)
    by true e = there (bytes_eq key one) refl e
    by false e = list_any-append (bytes_eq key) keys (one ∷ []) ∙ last (bytes_eq key one)

each : (keys found : List (List ℕ)) (key : List ℕ) → has_key (with_keys keys found) key ≡ (has_key keys key || has_key found key)
each keys [] key = or_none (has_key keys key)
each keys (one ∷ found) key =
    each (with_key keys one) found key
    ∙ ap (λ a. a || has_key found key) (has_one keys one key)
    ∙ or_same (has_key keys key) (bytes_eq key one) (has_key found key)

turned : (x y : List ℕ) → bytes_eq x y ≡ false → bytes_eq y x ≡ false
turned x y h = by (bytes_eq y x) refl
  where
    by : (b : Bool) → bytes_eq y x ≡ b → b ≡ false
    by true e = let same : x ≡ y = sym ((bytes_eq-Decides y x).0 e) in let no : true ≡ false = sym ((bytes_eq-Decides x y).1 same) ∙ h in no
    by false e = refl

neither : (a b : Bool) → (a || b) ≡ false → (a ≡ false) × (b ≡ false)
neither true b h = cc
neither false b h = (refl, h)

once_pushed : (keys : List (List ℕ)) (key : List ℕ) → has_key keys key ≡ false → Once keys → Once (keys ++ key ∷ [])
once_pushed [] key h once = (refl, tt)
once_pushed (k ∷ keys) key h once =
    let parts = neither (bytes_eq key k) (has_key keys key) h in (
      list_any-append (bytes_eq k) keys (key ∷ []) ∙ ap (λ a. a || (bytes_eq k key || false)) once.0 ∙ ap (λ b. b || false) (turned key k parts.0),
      once_pushed keys key parts.1 once.1,
    )

once_one : (keys : List (List ℕ)) (key : List ℕ) → Once keys → Once (with_key keys key)
once_one keys key once = by (has_key keys key) refl
  where
    by : (b : Bool) → has_key keys key ≡ b → Once (cond b keys (keys ++ key ∷ []))
    by true e = once
    by false e = once_pushed keys key e once

once_all : (keys found : List (List ℕ)) → Once keys → Once (with_keys keys found)
once_all keys [] once = once
once_all keys (key ∷ found) once = once_all (with_key keys key) found (once_one keys key once)

order : (keys found later : List (List ℕ)) → with_keys keys (found ++ later) ≡ with_keys (with_keys keys found) later
order keys [] later = refl
order keys (key ∷ found) later = order (with_key keys key) found later

pub keys_come_once : KeysComeOnce
keys_come_once = record { front = front; each = each; once = once_all; order = order }
