-- Keys, each once.
use Rattle.std.proofs.Common.{◌≡◌, ℕ, Bool, true, false, cond, ◌||◌, List, [], ◌∷◌, ◌++◌, refl, sym, ap, ◌∙◌}
use Rattle.std.specs.Prelude.{bytes_eq}
use Rattle.std.proofs.lemmas.Slice.Eq.{bytes_eq-Decides}
use Rattle.std.proofs.lemmas.List.Folds.{list_any-append}
use Rattle.voice_notes.specs.Anchors.{has_key, with_key, SameKeys}

or_true : (a : Bool) → (a || (true || false)) ≡ true
or_true true = refl
or_true false = refl

or_none : (a : Bool) → (a || (false || false)) ≡ a
or_none true = refl
or_none false = refl

-- one list gains a key, and the other does unless it has it
pub same_pushed : (known keys : List (List ℕ)) (key : List ℕ) → SameKeys known keys → SameKeys (with_key known key) (keys ++ key ∷ [])
same_pushed known keys key same k = by (has_key known key) refl
  where
    pushed : (others : List (List ℕ)) → has_key (others ++ key ∷ []) k ≡ (has_key others k || (bytes_eq k key || false))
    pushed others = list_any-append (bytes_eq k) others (key ∷ [])

    there : (t : Bool) → bytes_eq k key ≡ t → has_key known key ≡ true → has_key known k ≡ (has_key keys k || (t || false))
    there true e h = let one : k ≡ key = (bytes_eq-Decides k key).0 e in ap (has_key known) one ∙ h ∙ sym (or_true (has_key keys k))
    there false e h = same k ∙ sym (or_none (has_key keys k))

    by : (b : Bool) → has_key known key ≡ b → has_key (cond b known (known ++ key ∷ [])) k ≡ has_key (keys ++ key ∷ []) k
    by true e = there (bytes_eq k key) refl e ∙ sym (pushed keys)
    by false e = pushed known ∙ ap (λ a. a || (bytes_eq k key || false)) (same k) ∙ sym (pushed keys)
