-- A search over chunks: what lies in front of it passes, what lies behind it does not.
use Rattle.std.proofs.Common.{◌≡◌, ℕ, suc, zero, Bool, true, false, cond, Option, None, inl, inr, ◌⊎◌, ◌+◌, ◌-◌, ◌<◌, ◌≤◌, length, List, [], ◌∷◌, ◌++◌, take, drop, get_or, Some, slice_get, refl, ap, sym, ◌∙◌, arith, length-append}
use denote.Param.Members.{Mut}
use Rattle.std.specs.Option.{IfNone}
use Rattle.std.proofs.lemmas.Option.{slice_get_within}
use Rattle.std.specs.Fn.{Called, AlwaysReturns}
use Rattle.std.specs.List.{AllWithin}
use Rattle.std.specs.List.Sorted.{IsPartitionedBy, IsPartitionPoint}
use Rattle.counted_row.specs.Row.{flat, IsDense, Stands, passing}
use Rattle.counted_row.proofs.Flat.{flat-at, flat-take_more, stands-within}

-- how many values the chunks in front of one have
abbrev pub start : {X : Type 0} → List (List X) → ℕ → ℕ
start cs i = length (flat (take i cs))

-- all in front of low pass, and all from high on fail
pub record Halved {X : Type 0} (p : X → Bool) (xs : List X) (low high : ℕ) : Type 0 where
  pub front : AllWithin (λ y. p y ≡ true) xs 0 low
  pub behind : AllWithin (λ y. p y ≡ false) xs high (length xs)

-- what follows from what a clause says where there is no value
pub none_then : {X P Q : Type 0} (r : Option X) → IfNone r P → (P → Q) → IfNone r Q
none_then None h f = f h
none_then (Some x) h f = tt

cases : (m n : ℕ) → (m < n) ⊎ (n ≤ m)
cases m zero = inr (omega arith)
cases zero (suc n) = inl (omega arith)
cases (suc m) (suc n) = elim (cases m n) [
  | inl l ↦ inl (omega (arith, l))
  | inr l ↦ inr (omega (arith, l))
]

-- what a call answers, and that the later ones answer so too
pub answers_next : {F X R : Type 0} (g : Mut F X R) (P : X → R → Type 0) (f : F) (a : X) (r : R) (f' : F) → Called g f a r f' → AlwaysReturns g P f → P a r × AlwaysReturns g P f'
answers_next g P f a r f' c h = ((h.at (a ∷ []) r f' c).0, record { at = λ xs. (h.at (a ∷ xs) r f' c).1 })

bool-false : (b : Bool) → (b ≡ true → ⊥) → b ≡ false
bool-false true never = absurd (never refl)
bool-false false never = refl

bool-apart : (b : Bool) → b ≡ true → b ≡ false → ⊥
bool-apart true e f = cc
bool-apart false e f = cc

module _ {X : Type 0} where
  or-right : (a b : List X) (k n : ℕ) (d : X) → n ≡ length a + k → get_or (a ++ b) n d ≡ get_or b k d
  or-right [] b k n d e = ap (λ m. get_or b m d) (omega (arith, e))
  or-right (x ∷ a) b k zero d e = absurd (omega (arith, e))
  or-right (x ∷ a) b k (suc n) d e = or-right a b k n d (omega (arith, e))

  or-left : (a b : List X) (k : ℕ) (d : X) → k < length a → get_or (a ++ b) k d ≡ get_or a k d
  or-left [] b k d h = absurd (omega (arith, h))
  or-left (x ∷ a) b zero d h = refl
  or-left (x ∷ a) b (suc k) d h = or-left a b k d (omega (arith, h))

  get-or : (xs : List X) (k : ℕ) (v d : X) → slice_get xs k ≡ Some v → get_or xs k d ≡ v
  get-or [] k v d e = cc
  get-or (x ∷ xs) zero v d e = cc
  get-or (x ∷ xs) (suc k) v d e = get-or xs k v d e

  some-within : (xs : List X) (v : X) → slice_get xs 0 ≡ Some v → 0 < length xs
  some-within [] v e = cc
  some-within (x ∷ xs) v e = omega arith

  pub none-empty : (xs : List X) → slice_get xs 0 ≡ None → length xs ≡ 0
  none-empty [] e = refl
  none-empty (x ∷ xs) e = cc

  flat-or : (cs : List (List X)) (i place k : ℕ) (d : X) → Stands cs i place k → get_or (flat cs) k d ≡ get_or (get_or cs i []) place d
  flat-or cs i place k d stands =
      ap (λ l. get_or l k d) (flat-at cs i stands.0)
      ∙ or-right (flat (take i cs)) (get_or cs i [] ++ flat (drop (suc i) cs)) place k d stands.2
      ∙ or-left (get_or cs i []) (flat (drop (suc i) cs)) place d stands.1

  pub start-more : (cs : List (List X)) (i : ℕ) → i < length cs → start cs (i + 1) ≡ start cs i + length (get_or cs i [])
  start-more cs i h = let one : i + 1 ≡ suc i = omega arith in ap (λ n. start cs n) one ∙ flat-take_more cs i h

  pub start-before : (cs : List (List X)) (i : ℕ) → 0 < i → i ≤ length cs → start cs i ≡ start cs (i - 1) + length (get_or cs (i - 1) [])
  start-before cs i some h = let one : i ≡ (i - 1) + 1 = omega (arith, some) in ap (λ n. start cs n) one ∙ start-more cs (i - 1) (omega (arith, some, h))

  take-whole : (cs : List (List X)) (n : ℕ) → length cs ≤ n → take n cs ≡ cs
  take-whole [] zero h = refl
  take-whole [] (suc n) h = refl
  take-whole (c ∷ cs) zero h = absurd (omega (arith, h))
  take-whole (c ∷ cs) (suc n) h = ap (λ l. c ∷ l) (take-whole cs n (omega (arith, h)))

  pub start-all : (cs : List (List X)) (n : ℕ) → length cs ≤ n → start cs n ≡ length (flat cs)
  start-all cs n h = ap (λ l. length (flat l)) (take-whole cs n h)

  pub start-within : (cs : List (List X)) (i : ℕ) → i < length cs → start cs i + length (get_or cs i []) ≤ length (flat cs)
  start-within cs i h =
      let whole : length (flat cs) ≡ length (flat (take i cs) ++ (get_or cs i [] ++ flat (drop (suc i) cs))) = ap length (flat-at cs i h) in
      omega (arith, whole, length-append (flat (take i cs)) (get_or cs i [] ++ flat (drop (suc i) cs)), length-append (get_or cs i []) (flat (drop (suc i) cs)))

  start-rises : (cs : List (List X)) (m n : ℕ) → m ≤ n → start cs m ≤ start cs n
  start-rises [] zero n le = omega arith
  start-rises [] (suc m) zero le = absurd (omega (arith, le))
  start-rises [] (suc m) (suc n) le = omega arith
  start-rises (c ∷ cs) zero n le = omega arith
  start-rises (c ∷ cs) (suc m) zero le = absurd (omega (arith, le))
  start-rises (c ∷ cs) (suc m) (suc n) le = omega (arith, start-rises cs m n (omega (arith, le)), length-append c (flat (take m cs)), length-append c (flat (take n cs)))

  -- an empty chunk is the last one
  last-one : (cs : List (List X)) (m : ℕ) → IsDense cs → length (get_or cs m []) ≡ 0 → length cs ≤ suc m
  last-one [] m dense e = omega arith
  last-one (c ∷ []) m dense e = omega arith
  last-one (c ∷ d ∷ cs) zero dense e = absurd (omega (arith, dense.0 (omega arith), e))
  last-one (c ∷ d ∷ cs) (suc m) dense e = omega (arith, last-one (d ∷ cs) m dense.1 e)

  -- behind the values of a chunk: the next one, or the end
  pub end-next : (cs : List (List X)) (i place : ℕ) → i + 1 < length cs → 0 < length (get_or cs (i + 1) []) → place ≡ length (get_or cs i []) → Stands cs (i + 1) 0 (start cs i + place)
  end-next cs i place h some is = (h, some, omega (arith, start-more cs i (omega (arith, h)), is))

  pub end-last : (cs : List (List X)) (i place : ℕ) → i < length cs → length cs ≤ i + 1 → place ≡ length (get_or cs i []) → start cs i + place ≡ length (flat cs)
  end-last cs i place h last is = omega (arith, start-more cs i h, start-all cs (i + 1) last, is)

  pub end-empty : (cs : List (List X)) (i place : ℕ) → i + 1 < length cs → IsDense cs → length (get_or cs (i + 1) []) ≡ 0 → place ≡ length (get_or cs i []) → start cs i + place ≡ length (flat cs)
  end-empty cs i place h dense none is =
      let last : length cs ≤ (i + 1) + 1 = omega (arith, last-one cs (i + 1) dense none) in
      omega (arith, start-more cs i (omega (arith, h)), start-more cs (i + 1) h, start-all cs ((i + 1) + 1) last, none, is)

  -- how many pass, where a search says so
  pub passing-point : (p : X → Bool) (xs : List X) (n : ℕ) → n ≤ length xs → IsPartitionPoint (λ y. p y ≡ true) (λ y. p y ≡ false) xs n → n ≡ passing p xs
  passing-point p [] n within point = omega (arith, within)
  passing-point p (x ∷ xs) zero within point = sym (ap (λ b. cond b (suc (passing p xs)) 0) (point.1 0 x (omega arith) (omega arith)))
  passing-point p (x ∷ xs) (suc n) within point =
      let rest : n ≡ passing p xs = passing-point p xs n (omega (arith, within)) (λ k d low high. point.0 (suc k) d (omega (arith, low)) (omega (arith, high)), λ k d low high. point.1 (suc k) d (omega (arith, low)) (omega (arith, high))) in
      ap suc rest ∙ sym (ap (λ b. cond b (suc (passing p xs)) 0) (point.0 0 x (omega arith) (omega arith)))

  module _ (p : X → Bool) where
    unhalved : (xs : List X) (n : ℕ) → length xs ≤ n → Halved p xs 0 n
    unhalved xs n h = record { front = λ k d a b. absurd (omega (arith, b)); behind = λ k d a b. absurd (omega (arith, a, b, h)) }

    passes_at : (xs : List X) (low high m : ℕ) → IsPartitionedBy p xs → m < length xs → ((d : X) → p (get_or xs m d) ≡ true) → Halved p xs low high → Halved p xs m high
    passes_at xs low high m parts within at halved = record { front = λ k d a b. parts k m d (omega (arith, b)) within (at d); behind = halved.behind }

    failing : (xs : List X) (low high m : ℕ) → IsPartitionedBy p xs → ((d : X) → p (get_or xs m d) ≡ false) → Halved p xs low high → Halved p xs low m
    failing xs low high m parts at halved = record {
      front = halved.front;
      behind = λ k d a b. bool-false (p (get_or xs k d)) (λ e. bool-apart (p (get_or xs m d)) (parts m k d a b e) (at d));
    }

    pub whole : (cs : List (List X)) (n : ℕ) → n ≡ length cs → Halved p (flat cs) (start cs 0) (start cs (0 + n))
    whole cs n e = unhalved (flat cs) (start cs (0 + n)) (omega (arith, start-all cs (0 + n) (omega (arith, e))))

    -- the first value of a chunk passes, or fails
    pub chunk-passes : (cs : List (List X)) (low high m : ℕ) (v : X) → m < length cs → slice_get (get_or cs m []) 0 ≡ Some v → p v ≡ true → IsPartitionedBy p (flat cs) → Halved p (flat cs) low high → Halved p (flat cs) (start cs m) high
    chunk-passes cs low high m v h first passes parts halved =
        let stands : Stands cs m 0 (start cs m) = (h, some-within (get_or cs m []) v first, omega arith) in
        passes_at (flat cs) low high (start cs m) parts (stands-within cs m 0 (start cs m) stands)
        (λ d. ap p (flat-or cs m 0 (start cs m) d stands ∙ get-or (get_or cs m []) 0 v d first) ∙ passes) halved

    pub chunk-fails : (cs : List (List X)) (low high m : ℕ) (v : X) → m < length cs → slice_get (get_or cs m []) 0 ≡ Some v → p v ≡ false → IsPartitionedBy p (flat cs) → Halved p (flat cs) low high → Halved p (flat cs) low (start cs m)
    chunk-fails cs low high m v h first fails parts halved =
        let stands : Stands cs m 0 (start cs m) = (h, some-within (get_or cs m []) v first, omega arith) in
        failing (flat cs) low high (start cs m) parts
        (λ d. ap p (flat-or cs m 0 (start cs m) d stands ∙ get-or (get_or cs m []) 0 v d first) ∙ fails) halved

    -- an empty chunk is the last one
    pub chunk-empty : (cs : List (List X)) (low high m : ℕ) → m < length cs → IsDense cs → slice_get (get_or cs m []) 0 ≡ None → Halved p (flat cs) low high → Halved p (flat cs) low (start cs m)
    chunk-empty cs low high m h dense none halved =
        let empty : length (get_or cs m []) ≡ 0 = none-empty (get_or cs m []) none in
        let last : length cs ≤ suc m = last-one cs m dense empty in
        record {
          front = halved.front;
          behind = λ k d a b. absurd (omega (arith, a, b, empty, flat-take_more cs m h, start-all cs (suc m) last));
        }

    -- what fails from one chunk on fails from each later one on
    raised : (cs : List (List X)) (low m n : ℕ) → m ≤ n → Halved p (flat cs) low (start cs m) → Halved p (flat cs) low (start cs n)
    raised cs low m n le halved = record { front = halved.front; behind = λ k d a b. halved.behind k d (omega (arith, a, start-rises cs m n le)) b }

    pub chunk-empty-up : (cs : List (List X)) (low high m n : ℕ) → m < length cs → m ≤ n → IsDense cs → slice_get (get_or cs m []) 0 ≡ None → Halved p (flat cs) low high → Halved p (flat cs) low (start cs n)
    chunk-empty-up cs low high m n h le dense none halved = raised cs low m n le (chunk-empty cs low high m h dense none halved)

    pub chunk-fails-up : (cs : List (List X)) (low high m n : ℕ) (v : X) → m < length cs → m ≤ n → slice_get (get_or cs m []) 0 ≡ Some v → p v ≡ false → IsPartitionedBy p (flat cs) → Halved p (flat cs) low high → Halved p (flat cs) low (start cs n)
    chunk-fails-up cs low high m n v h le first fails parts halved = raised cs low m n le (chunk-fails cs low high m v h first fails parts halved)

    pub parts-in : (cs : List (List X)) (i : ℕ) → i < length cs → IsPartitionedBy p (flat cs) → IsPartitionedBy p (get_or cs i [])
    parts-in cs i h parts j k d le lt e =
        sym (ap p (flat-or cs i j (start cs i + j) d (h, omega (arith, le, lt), refl)))
        ∙ parts (start cs i + j) (start cs i + k) d (omega (arith, le)) (omega (arith, lt, start-within cs i h))
        (ap p (flat-or cs i k (start cs i + k) d (h, lt, refl)) ∙ e)

    pub point-in : (cs : List (List X)) (i r n : ℕ) → i < length cs → n ≡ start cs i + r → r ≤ length (get_or cs i []) → Halved p (flat cs) (start cs i) (start cs (i + 1)) → IsPartitionPoint (λ y. p y ≡ true) (λ y. p y ≡ false) (get_or cs i []) r → IsPartitionPoint (λ y. p y ≡ true) (λ y. p y ≡ false) (flat cs) n
    point-in cs i r n h is within halved point = (
      (λ k d a b. elim (cases k (start cs i)) [
        | inl before ↦ halved.front k d a before
        | inr from ↦ ap p (flat-or cs i (k - start cs i) k d (h, omega (arith, b, is, within, from), omega (arith, from))) ∙ point.0 (k - start cs i) d (omega arith) (omega (arith, b, is, from))
      ]),
      (λ k d a b. elim (cases k (start cs i + length (get_or cs i []))) [
        | inl inside ↦ ap p (flat-or cs i (k - start cs i) k d (h, omega (arith, a, is, inside), omega (arith, a, is))) ∙ point.1 (k - start cs i) d (omega (arith, a, is)) (omega (arith, a, is, inside))
        | inr from ↦ halved.behind k d (omega (arith, from, start-more cs i h)) b
      ]),
    )

    -- where the last value passes all do
    pub last-passes : (cs : List (List X)) (v : X) → 0 < length cs → slice_get (get_or cs (length cs - 1) []) (length (get_or cs (length cs - 1) []) - 1) ≡ Some v → p v ≡ true → IsPartitionedBy p (flat cs) → passing p (flat cs) ≡ length (flat cs)
    last-passes cs v some last passes parts =
        let i = length cs - 1 in
        let place = length (get_or cs i []) - 1 in
        let k = start cs i + place in
        let stands : Stands cs i place k = (omega (arith, some), slice_get_within (get_or cs i []) place v last, refl) in
        let end : length (flat cs) ≡ suc k = omega (arith, start-more cs i stands.0, start-all cs (i + 1) (omega (arith, some)), stands.1) in
        sym (passing-point p (flat cs) (length (flat cs)) (omega arith) (
          (λ j d a b. parts j k d (omega (arith, b, end)) (omega (arith, end)) (ap p (flat-or cs i place k d stands ∙ get-or (get_or cs i []) place v d last) ∙ passes)),
          (λ j d a b. absurd (omega (arith, a, b))),
        ))
