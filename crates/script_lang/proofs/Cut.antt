-- The first part of some bytes.
use Rattle.std.proofs.Common.{◌≡◌, ℕ, suc, zero, ◌+◌, ◌-◌, ◌<◌, ◌≤◌, Bool, true, false, cond, ◌&&◌, ◌||◌, List, [], ◌∷◌, length, get_or, take, drop, sym, refl, ap, ◌∙◌, arith, add-one, length-drop, Option, Some, None, ltb}
use Rattle.std.proofs.lemmas.Bool.Decides.{nat_tests}
use Rattle.std.specs.List.{position, filter, list_all}
use Rattle.std.proofs.lemmas.List.{take_all}
use Rattle.std.proofs.lemmas.List.Quantifiers.{position-Some}
use Rattle.std.proofs.lemmas.List.Sums.{fails_before_first}
use Rattle.std.specs.List.{position_or_len}
use Rattle.script_lang.specs.Words.{parts, push_front, words_of, some_bytes, is_blank, is_end, is_plain, is_clean, is_plain_byte, is_clean_byte}

parts_at : (p : ℕ → Bool) (bytes : List ℕ) (i : ℕ) → i < length bytes → p (get_or bytes i 0) ≡ true → ((k : ℕ) → k < i → p (get_or bytes k 0) ≡ false) →
    parts p bytes ≡ take i bytes ∷ parts p (drop (suc i) bytes)
parts_at p [] i within here before = absurd (omega arith)
parts_at p (b ∷ bs) zero within here before = ap (λ t. cond t ([] ∷ parts p bs) (push_front b (parts p bs))) here
parts_at p (b ∷ bs) (suc i) within here before =
    ap (λ t. cond t ([] ∷ parts p bs) (push_front b (parts p bs))) (before 0 (omega arith))
    ∙ ap (push_front b) (parts_at p bs i (omega arith) here (λ k h. before (suc k) (omega arith)))

parts_none : (p : ℕ → Bool) (bytes : List ℕ) → 0 < length bytes → ((k : ℕ) → k < length bytes → p (get_or bytes k 0) ≡ false) → parts p bytes ≡ bytes ∷ []
parts_none p [] some before = absurd (omega arith)
parts_none p (b ∷ []) some before = ap (λ t. cond t ([] ∷ parts p []) (push_front b (parts p []))) (before 0 (omega arith))
parts_none p (b ∷ c ∷ bs) some before =
    ap (λ t. cond t ([] ∷ parts p (c ∷ bs)) (push_front b (parts p (c ∷ bs)))) (before 0 (omega arith))
    ∙ ap (push_front b) (parts_none p (c ∷ bs) (omega arith) (λ k h. before (suc k) (omega arith)))

behind : (bytes : List ℕ) (i : ℕ) → drop (suc i) bytes ≡ take (length bytes - (i + 1)) (drop (i + 1) bytes)
behind bytes i = ap (λ n. drop n bytes) (sym (add-one i)) ∙ sym (take_all (length bytes - (i + 1)) (drop (i + 1) bytes) (omega (arith, length-drop (i + 1) bytes)))

pub within : (p : ℕ → Bool) (bytes : List ℕ) (i : ℕ) → position p bytes ≡ Some i → i < length bytes
within p bytes i e = (position-Some p bytes i 0 e).0

pub parts-found : (p : ℕ → Bool) (bytes : List ℕ) (i : ℕ) → position p bytes ≡ Some i → parts p bytes ≡ take i bytes ∷ parts p (take (length bytes - (i + 1)) (drop (i + 1) bytes))
parts-found p bytes i e =
    let h = position-Some p bytes i 0 e in
    parts_at p bytes i h.0 h.1 h.2 ∙ ap (λ rest. take i bytes ∷ parts p rest) (behind bytes i)

past : (n m : ℕ) (x : Option ℕ) → cond (ltb n m) (Some n) None ≡ None → m ≤ n
past n m x e = grind (arith, nat_tests)

pub parts-none : (p : ℕ → Bool) (bytes : List ℕ) → 0 < length bytes → position p bytes ≡ None → parts p bytes ≡ bytes ∷ []
parts-none p bytes some e =
    let all : length bytes ≤ position_or_len p bytes = past (position_or_len p bytes) (length bytes) None e in
    parts_none p bytes some (λ k h. fails_before_first p bytes k 0 (omega arith))

-- a part that isn't empty is the next word, and one that is empty is passed over
pub word-next : (line part rest : List ℕ) → parts is_blank line ≡ part ∷ parts is_blank rest → 0 < length part → words_of line ≡ part ∷ words_of rest
word-next line [] rest e some = absurd (omega arith)
word-next line (b ∷ part) rest e some = ap (filter some_bytes) e

pub word-past : (line part rest : List ℕ) → parts is_blank line ≡ part ∷ parts is_blank rest → length part ≡ 0 → words_of line ≡ words_of rest
word-past line [] rest e none = ap (filter some_bytes) e
word-past line (b ∷ part) rest e none = absurd (omega arith)

-- the bytes of a clean list
no_both : false ≡ true → ⊥
no_both e = cc

no_end : true ≡ false → ⊥
no_end e = cc

first_of : (a r : Bool) → (a && r) ≡ true → a ≡ true
first_of true r h = refl
first_of false r h = h

rest_of : (a r : Bool) → (a && r) ≡ true → r ≡ true
rest_of true r h = h
rest_of false r h = absurd (no_both h)

both : (a r : Bool) → a ≡ true → r ≡ true → (a && r) ≡ true
both true r f g = g
both false r f g = f

pub list_all_take : (p : ℕ → Bool) (n : ℕ) (xs : List ℕ) → list_all p xs ≡ true → list_all p (take n xs) ≡ true
list_all_take p zero [] h = refl
list_all_take p (suc n) [] h = refl
list_all_take p zero (x ∷ xs) h = refl
list_all_take p (suc n) (x ∷ xs) h = both (p x) (list_all p (take n xs)) (first_of (p x) (list_all p xs) h) (list_all_take p n xs (rest_of (p x) (list_all p xs) h))

list_all_drop : (p : ℕ → Bool) (n : ℕ) (xs : List ℕ) → list_all p xs ≡ true → list_all p (drop n xs) ≡ true
list_all_drop p zero [] h = refl
list_all_drop p (suc n) [] h = refl
list_all_drop p zero (x ∷ xs) h = h
list_all_drop p (suc n) (x ∷ xs) h = list_all_drop p n xs (rest_of (p x) (list_all p xs) h)

plain_first : (p e r q : Bool) → ((p || e) && r) ≡ true → e ≡ false → (r ≡ true → q ≡ true) → (p && q) ≡ true
plain_first true e r q h f g = g h
plain_first false true r q h f g = absurd (no_end f)
plain_first false false r q h f g = h

front_plain : (bytes : List ℕ) (i : ℕ) → is_clean bytes ≡ true → ((k : ℕ) → k < i → is_end (get_or bytes k 0) ≡ false) → is_plain (take i bytes) ≡ true
front_plain [] zero h before = refl
front_plain [] (suc i) h before = refl
front_plain (b ∷ bs) zero h before = refl
front_plain (b ∷ bs) (suc i) h before =
    plain_first (is_plain_byte b) (is_end b) (is_clean bs) (is_plain (take i bs)) h (before 0 (omega arith)) (λ r. front_plain bs i r (λ k low. before (suc k) (omega arith)))

pub clean-found : (bytes : List ℕ) (i : ℕ) → position is_end bytes ≡ Some i → is_clean bytes ≡ true → (is_plain (take i bytes) ≡ true) × (is_clean (take (length bytes - (i + 1)) (drop (i + 1) bytes)) ≡ true)
clean-found bytes i e h = (
  front_plain bytes i h (position-Some is_end bytes i 0 e).2,
  list_all_take is_clean_byte (length bytes - (i + 1)) (drop (i + 1) bytes) (list_all_drop is_clean_byte (i + 1) bytes h),
)

pub clean-none : (bytes : List ℕ) → position is_end bytes ≡ None → is_clean bytes ≡ true → (is_plain bytes ≡ true) × (true ≡ true)
clean-none bytes e h =
    let all : length bytes ≤ position_or_len is_end bytes = past (position_or_len is_end bytes) (length bytes) None e in
    let front = front_plain bytes (length bytes) h (λ k low. fails_before_first is_end bytes k 0 (omega arith)) in
    (ap is_plain (sym (take_all (length bytes) bytes (omega arith))) ∙ front, refl)
