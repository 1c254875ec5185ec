-- Items that are appended one by one.
use Rattle.std.proofs.Common.{◌≡◌, ℕ, zero, suc, ◌+◌, ◌<◌, ◌≤◌, List, [], ◌∷◌, ◌++◌, length, take, get_or, refl, ap, sym, ◌∙◌, arith, append_assoc, length-append}
use Rattle.std.specs.Prelude.{flat_map}
use Rattle.std.proofs.lemmas.List.Folds.{length-flat_map-take}

-- the first i items are appended, and there is room for all
pub record AreAppended {A : Type 0} (f : A → List ℕ) (before now : List ℕ) (room i : ℕ) (xs : List A) : Type 0 where
  pub items : now ≡ before ++ flat_map f (take i xs)
  pub space : length before + length (flat_map f xs) ≤ room

nothing : (xs : List ℕ) → xs ≡ xs ++ []
nothing [] = refl
nothing (x ∷ xs) = ap (λ (l : List ℕ). x ∷ l) (nothing xs)

pub appended_none : {A : Type 0} (f : A → List ℕ) (before : List ℕ) (room : ℕ) (xs : List A) → length before + length (flat_map f xs) ≤ room → AreAppended f before before room 0 xs
appended_none f before room [] space = record { items = nothing before; space = space }
appended_none f before room (x ∷ xs) space = record { items = nothing before; space = space }

-- the next item has room
pub room_next : {A : Type 0} (f : A → List ℕ) (before now : List ℕ) (room i : ℕ) (xs : List A) (x : A) → AreAppended f before now room i xs → i < length xs → x ≡ get_or xs i x → length now + length (f x) ≤ room
room_next f before now room i xs x is lt item =
    let front = length-flat_map-take f xs i x lt in
    let same = ap (λ y. length (f y)) item in
    let whole = ap length is.items ∙ length-append before (flat_map f (take i xs)) in
    omega (arith, is.space, front, same, whole)

front_more : {A : Type 0} (f : A → List ℕ) (xs : List A) (i : ℕ) (x : A) → i < length xs → x ≡ get_or xs i x → flat_map f (take (i + 1) xs) ≡ flat_map f (take i xs) ++ f x
front_more f [] i x lt item = absurd (omega arith)
front_more f (y ∷ xs) zero x lt item = sym (nothing (f y)) ∙ ap f (sym item)
front_more f (y ∷ xs) (suc i) x lt item =
    let n : suc i + 1 ≡ suc (i + 1) = omega arith in
    ap (λ m. flat_map f (take m (y ∷ xs))) n ∙ ap (λ (l : List ℕ). f y ++ l) (front_more f xs i x (omega arith) item) ∙ sym (append_assoc (f y) (flat_map f (take i xs)) (f x))

pub appended_more : {A : Type 0} (f : A → List ℕ) (before now now' : List ℕ) (room room' i : ℕ) (xs : List A) (x : A) → AreAppended f before now room i xs → i < length xs → x ≡ get_or xs i x → room ≤ room' → now' ≡ now ++ f x → AreAppended f before now' room' (i + 1) xs
appended_more f before now now' room room' i xs x is lt item more put =
    record {
      items = put ∙ ap (λ (l : List ℕ). l ++ f x) is.items ∙ append_assoc before (flat_map f (take i xs)) (f x) ∙ ap (λ (l : List ℕ). before ++ l) (sym (front_more f xs i x lt item));
      space = let s = is.space in omega (arith, s, more);
    }

take_all : {A : Type 0} (xs : List A) (k : ℕ) → length xs ≤ k → take k xs ≡ xs
take_all [] zero h = refl
take_all [] (suc k) h = refl
take_all (x ∷ xs) zero h = absurd (omega arith)
take_all (x ∷ xs) (suc k) h = ap (λ l. x ∷ l) (take_all xs k (omega arith))

pub appended_all : {A : Type 0} (f : A → List ℕ) (before now : List ℕ) (room i : ℕ) (xs : List A) → AreAppended f before now room i xs → length xs ≤ i → now ≡ before ++ flat_map f xs
appended_all f before now room i xs is h = is.items ∙ ap (λ l. before ++ flat_map f l) (take_all xs i h)

front_of_width : {A : Type 0} (f : A → List ℕ) (width : ℕ) → ((x : A) → length (f x) ≡ width) → (xs : List A) (i : ℕ) → i < length xs → length (flat_map f (take i xs)) + width ≤ length (flat_map f xs)
front_of_width f width each [] i lt = absurd (omega arith)
front_of_width f width each (x ∷ xs) zero lt =
    let first = each x in
    let whole = length-append (f x) (flat_map f xs) in
    omega (arith, first, whole)
front_of_width f width each (x ∷ xs) (suc i) lt =
    let rest = front_of_width f width each xs i (omega arith) in
    let whole = length-append (f x) (flat_map f xs) in
    let front = length-append (f x) (flat_map f (take i xs)) in
    omega (arith, rest, whole, front)

-- the next item has room, where all are spelled in one width
pub room_of_width : {A : Type 0} (f : A → List ℕ) (width : ℕ) → ((x : A) → length (f x) ≡ width) → (before now : List ℕ) (room i : ℕ) (xs : List A) → AreAppended f before now room i xs → i < length xs → length now + width ≤ room
room_of_width f width each before now room i xs is lt =
    let front = front_of_width f width each xs i lt in
    let whole = ap length is.items ∙ length-append before (flat_map f (take i xs)) in
    omega (arith, is.space, front, whole)
