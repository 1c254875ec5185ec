-- Places that are put in order: the same ones, files and indices rising.
use Rattle.std.proofs.Common.{◌≡◌, ℕ, suc, ◌<◌, ◌⊎◌, inl, inr, ◌==◌, Bool, true, false, cond, ◌&&◌, ◌||◌, nat_lt, List, [], ◌∷◌, ◌++◌, length, refl, sym, ◌∙◌, ap, arith}
use Rattle.std.proofs.lemmas.Bool.{ltb-true, ltb-false, lt-ltb, eqb-true, eq-eqb}
use Rattle.std.specs.Prelude.{filter}
use Rattle.voice_units.specs.Blocks.{BlockPair, same_pair}
use Rattle.voice_units.proofs.PiecesOfRopes.{both}
use Rattle.voice_units.proofs.Distinct.{same_pair-true}
use Rattle.voice_model.specs.Replay.{Placed, address_of, has_place}
use Rattle.voice_model.specs.Base.{comes_first, with_place, in_order}
use Rattle.voice_model.specs.Valid.{Every}
use Rattle.voice_model.specs.Places.{Pairwise, OfOtherBlock, ComesFirst, IsOrdering}
use Rattle.voice_model.proofs.KeptByChanges.{every-append, every-imply, every-filter}

-- ---- pairs of elements

pub every-split : {A : Type 0} (P : A → Type 0) (xs ys : List A) → Every P (xs ++ ys) → Every P xs × Every P ys
every-split P [] ys h = (tt, h)
every-split P (x ∷ xs) ys h = let rest = every-split P xs ys h.1 in ((h.0, rest.0), rest.1)

pub every-both : {A : Type 0} (P Q : A → Type 0) (xs : List A) → Every P xs → Every Q xs → Every (λ x. P x × Q x) xs
every-both P Q [] h k = tt
every-both P Q (x ∷ xs) h k = ((h.0, k.0), every-both P Q xs h.1 k.1)

pub every-always : {A : Type 0} (P : A → Type 0) → ((x : A) → P x) → (xs : List A) → Every P xs
every-always P h [] = tt
every-always P h (x ∷ xs) = (h x, every-always P h xs)

pub pairwise-append : {A : Type 0} (R : A → A → Type 0) (xs ys : List A) → Pairwise R xs → Pairwise R ys → Every (λ x. Every (R x) ys) xs → Pairwise R (xs ++ ys)
pairwise-append R [] ys h k c = k
pairwise-append R (x ∷ xs) ys h k c = (every-append (R x) xs ys h.0 c.0, pairwise-append R xs ys h.1 k c.1)

pub pairwise-split : {A : Type 0} (R : A → A → Type 0) (xs ys : List A) → Pairwise R (xs ++ ys) → Pairwise R xs × Pairwise R ys × Every (λ x. Every (R x) ys) xs
pairwise-split R [] ys h = (tt, h, tt)
pairwise-split R (x ∷ xs) ys h =
    let first = every-split (R x) xs ys h.0 in
    let rest = pairwise-split R xs ys h.1 in
    ((first.0, rest.0), rest.1, (first.1, rest.2))

pairwise_kept : {A : Type 0} (R : A → A → Type 0) (b : Bool) (x : A) (xs : List A) → Every (R x) xs → Pairwise R xs → Pairwise R (cond b (x ∷ xs) xs)
pairwise_kept R true x xs h k = (h, k)
pairwise_kept R false x xs h k = k

pub pairwise-filter : {A : Type 0} (R : A → A → Type 0) (p : A → Bool) (xs : List A) → Pairwise R xs → Pairwise R (filter p xs)
pairwise-filter R p [] h = tt
pairwise-filter R p (x ∷ xs) h = pairwise_kept R (p x) x (filter p xs) (every-filter (R x) p xs h.0) (pairwise-filter R p xs h.1)

-- ---- a place comes among others

every_placed : (P : Placed → Type 0) (b : Bool) (p q : Placed) (qs rest : List Placed) → P p → P q → Every P qs → Every P rest → Every P (cond b (p ∷ q ∷ qs) (q ∷ rest))
every_placed P true p q qs rest h k e f = (h, (k, e))
every_placed P false p q qs rest h k e f = (k, f)

pub every_with : (P : Placed → Type 0) (p : Placed) (qs : List Placed) → P p → Every P qs → Every P (with_place p qs)
every_with P p [] h k = (h, tt)
every_with P p (q ∷ qs) h k = every_placed P (comes_first p.pair q.pair) p q qs (with_place p qs) h k.0 k.1 (every_with P p qs h k.1)

pub every_ordered : (P : Placed → Type 0) (ps : List Placed) → Every P ps → Every P (in_order ps)
every_ordered P [] h = tt
every_ordered P (p ∷ ps) h = every_with P p (in_order ps) h.0 (every_ordered P ps h.1)

pairwise_placed : (R : Placed → Placed → Type 0) (b : Bool) (p q : Placed) (qs rest : List Placed) → Every (R p) (q ∷ qs) → Pairwise R (q ∷ qs) → Every (R q) rest → Pairwise R rest → Pairwise R (cond b (p ∷ q ∷ qs) (q ∷ rest))
pairwise_placed R true p q qs rest h k e f = (h, k)
pairwise_placed R false p q qs rest h k e f = (e, f)

-- what holds of two places either way round
pub pairwise_with : (R : Placed → Placed → Type 0) → ((p q : Placed) → R p q → R q p) → (p : Placed) (qs : List Placed) → Every (R p) qs → Pairwise R qs → Pairwise R (with_place p qs)
pairwise_with R swap p [] h k = (tt, tt)
pairwise_with R swap p (q ∷ qs) h k =
    pairwise_placed R (comes_first p.pair q.pair) p q qs (with_place p qs) h k (every_with (R q) p qs (swap p q h.0) k.0) (pairwise_with R swap p qs h.1 k.1)

pub pairwise_ordered : (R : Placed → Placed → Type 0) → ((p q : Placed) → R p q → R q p) → (ps : List Placed) → Pairwise R ps → Pairwise R (in_order ps)
pairwise_ordered R swap [] h = tt
pairwise_ordered R swap (p ∷ ps) h = pairwise_with R swap p (in_order ps) (every_ordered (R p) ps h.0) (pairwise_ordered R swap ps h.1)

-- ---- the order

either_way : (a b c : Bool) → (a || (b && c)) ≡ true → (a ≡ true) ⊎ ((b ≡ true) × (c ≡ true))
either_way true b c h = inl refl
either_way false b c h = inr (both b c h)

abbrev pub Before : BlockPair → BlockPair → Type 0
Before p q = (p.file < q.file) ⊎ ((p.file ≡ q.file) × (p.index < q.index))

pub before : (p q : BlockPair) → comes_first p q ≡ true → Before p q
before p q h =
    elim (either_way (nat_lt p.file q.file) (p.file == q.file) (nat_lt p.index q.index) h) [
      | inl less ↦ inl (ltb-true p.file q.file less)
      | inr same ↦ inr (eqb-true p.file q.file same.0, ltb-true p.index q.index same.1)
    ]

first_or : (a b : Bool) → b ≡ true → (a || b) ≡ true
first_or true b h = refl
first_or false b h = h

pub is_before : (p q : BlockPair) → Before p q → comes_first p q ≡ true
is_before p q h =
    elim h [
      | inl less ↦ ap (λ b. b || ((p.file == q.file) && nat_lt p.index q.index)) (lt-ltb p.file q.file less)
      | inr same ↦ first_or (nat_lt p.file q.file) ((p.file == q.file) && nat_lt p.index q.index) (ap (λ b. b && nat_lt p.index q.index) (eq-eqb p.file q.file same.0) ∙ lt-ltb p.index q.index same.1)
    ]

before_trans : (p q r : BlockPair) → Before p q → Before q r → Before p r
before_trans p q r h k =
    elim h [
      | inl a ↦ elim k [ inl b ↦ inl (omega (arith, a, b)) | inr b ↦ inl (let e = b.0 in omega (arith, a, e)) ]
      | inr a ↦ elim k [ inl b ↦ inl (let e = a.0 in omega (arith, b, e)) | inr b ↦ inr (a.0 ∙ b.0, let x = a.1 in let y = b.1 in omega (arith, x, y)) ]
    ]

same_block : (p q : BlockPair) → p.file ≡ q.file → p.index ≡ q.index → p ≡ q
same_block p q e f = λ i. record { file = e i; index = f i }

three_ways : (m n : ℕ) → (m < n) ⊎ ((m ≡ n) ⊎ (n < m))
three_ways m n = by (nat_lt m n) refl (nat_lt n m) refl
  where
    by : (b : Bool) → nat_lt m n ≡ b → (c : Bool) → nat_lt n m ≡ c → (m < n) ⊎ ((m ≡ n) ⊎ (n < m))
    by true e c f = inl (ltb-true m n e)
    by false e true f = inr (inr (ltb-true n m f))
    by false e false f = inr (inl (omega (arith, ltb-false m n e, ltb-false n m f)))

other_way : (p q : BlockPair) → ¬ (p ≡ q) → comes_first p q ≡ false → Before q p
other_way p q differ h =
    elim (three_ways p.file q.file) [
      | inl less ↦ let yes = is_before p q (inl less) in cc
      | inr rest ↦ elim rest [
        | inr more ↦ inl more
        | inl same ↦ elim (three_ways p.index q.index) [
          | inl less ↦ let yes = is_before p q (inr (same, less)) in cc
          | inr rest ↦ elim rest [ inl e ↦ absurd (differ (same_block p q same e)) | inr more ↦ inr (sym same, more) ]
        ]
      ]
    ]

sorted_before : (p q : Placed) (qs : List Placed) → comes_first p.pair q.pair ≡ true → Every (ComesFirst q) qs → Every (ComesFirst p) qs
sorted_before p q qs h k = every-imply (ComesFirst q) (ComesFirst p) (λ x e. is_before p.pair x.pair (before_trans p.pair q.pair x.pair (before p.pair q.pair h) (before q.pair x.pair e))) qs k

sorted_choice : (b : Bool) (p q : Placed) (qs rest : List Placed) → comes_first p.pair q.pair ≡ b → ¬ (p.pair ≡ q.pair) → Every (ComesFirst q) qs → Pairwise ComesFirst qs → (comes_first q.pair p.pair ≡ true → Every (ComesFirst q) rest) → Pairwise ComesFirst rest → Pairwise ComesFirst (cond b (p ∷ q ∷ qs) (q ∷ rest))
sorted_choice true p q qs rest e differ h k f g = ((e, sorted_before p q qs e h), (h, k))
sorted_choice false p q qs rest e differ h k f g = (f (is_before q.pair p.pair (other_way p.pair q.pair differ e)), g)

sorted_with : (p : Placed) (qs : List Placed) → Every (OfOtherBlock p) qs → Pairwise ComesFirst qs → Pairwise ComesFirst (with_place p qs)
sorted_with p [] h k = (tt, tt)
sorted_with p (q ∷ qs) h k =
    sorted_choice (comes_first p.pair q.pair) p q qs (with_place p qs) refl h.0 k.0 k.1
    (λ e. every_with (ComesFirst q) p qs e k.0)
    (sorted_with p qs h.1 k.1)

pub sorted : (ps : List Placed) → Pairwise OfOtherBlock ps → Pairwise ComesFirst (in_order ps)
sorted [] h = tt
sorted (p ∷ ps) h = sorted_with p (in_order ps) (every_ordered (OfOtherBlock p) ps h.0) (sorted ps h.1)

-- ---- the same places

length_placed : (b : Bool) (p q : Placed) (qs rest : List Placed) → length rest ≡ suc (length qs) → length (cond b (p ∷ q ∷ qs) (q ∷ rest)) ≡ suc (suc (length qs))
length_placed true p q qs rest e = refl
length_placed false p q qs rest e = ap suc e

length_with : (p : Placed) (qs : List Placed) → length (with_place p qs) ≡ suc (length qs)
length_with p [] = refl
length_with p (q ∷ qs) = length_placed (comes_first p.pair q.pair) p q qs (with_place p qs) (length_with p qs)

pub length_ordered : (ps : List Placed) → length (in_order ps) ≡ length ps
length_ordered [] = refl
length_ordered (p ∷ ps) = length_with p (in_order ps) ∙ ap suc (length_ordered ps)

-- the address of a block is that of its place, wherever it stands
swapped_addresses : (a b : Bool) (m n rest : ℕ) → (a ≡ true → b ≡ true → ⊥) → cond a m (cond b n rest) ≡ cond b n (cond a m rest)
swapped_addresses true true m n rest h = absurd (h refl refl)
swapped_addresses true false m n rest h = refl
swapped_addresses false b m n rest h = refl

address_placed : (b : Bool) (p q : Placed) (qs rest : List Placed) (pair : BlockPair) → ¬ (p.pair ≡ q.pair) → address_of rest pair ≡ address_of (p ∷ qs) pair → address_of (cond b (p ∷ q ∷ qs) (q ∷ rest)) pair ≡ address_of (p ∷ q ∷ qs) pair
address_placed true p q qs rest pair differ e = refl
address_placed false p q qs rest pair differ e =
    ap (λ n. cond (same_pair q.pair pair) q.address n) e
    ∙ swapped_addresses (same_pair q.pair pair) (same_pair p.pair pair) q.address p.address (address_of qs pair) (λ h k. differ (same_pair-true p.pair pair k ∙ sym (same_pair-true q.pair pair h)))

address_with : (p : Placed) (qs : List Placed) (pair : BlockPair) → Every (OfOtherBlock p) qs → address_of (with_place p qs) pair ≡ address_of (p ∷ qs) pair
address_with p [] pair h = refl
address_with p (q ∷ qs) pair h = address_placed (comes_first p.pair q.pair) p q qs (with_place p qs) pair h.0 (address_with p qs pair h.1)

pub address_ordered : (ps : List Placed) (pair : BlockPair) → Pairwise OfOtherBlock ps → address_of (in_order ps) pair ≡ address_of ps pair
address_ordered [] pair h = refl
address_ordered (p ∷ ps) pair h =
    address_with p (in_order ps) pair (every_ordered (OfOtherBlock p) ps h.0)
    ∙ ap (λ n. cond (same_pair p.pair pair) p.address n) (address_ordered ps pair h.1)

has_placed : (b : Bool) (p q : Placed) (qs rest : List Placed) (pair : BlockPair) → has_place rest pair ≡ has_place (p ∷ qs) pair → has_place (cond b (p ∷ q ∷ qs) (q ∷ rest)) pair ≡ has_place (p ∷ q ∷ qs) pair
has_placed true p q qs rest pair e = refl
has_placed false p q qs rest pair e = ap (λ b. same_pair q.pair pair || b) e ∙ swapped_or (same_pair q.pair pair) (same_pair p.pair pair) (has_place qs pair)
  where
    swapped_or : (a b c : Bool) → (a || (b || c)) ≡ (b || (a || c))
    swapped_or true true c = refl
    swapped_or true false c = refl
    swapped_or false b c = refl

has_with : (p : Placed) (qs : List Placed) (pair : BlockPair) → has_place (with_place p qs) pair ≡ has_place (p ∷ qs) pair
has_with p [] pair = refl
has_with p (q ∷ qs) pair = has_placed (comes_first p.pair q.pair) p q qs (with_place p qs) pair (has_with p qs pair)

pub has_ordered : (ps : List Placed) (pair : BlockPair) → has_place (in_order ps) pair ≡ has_place ps pair
has_ordered [] pair = refl
has_ordered (p ∷ ps) pair = has_with p (in_order ps) pair ∙ ap (λ b. same_pair p.pair pair || b) (has_ordered ps pair)

pub ordered : (ps : List Placed) → Pairwise OfOtherBlock ps → IsOrdering ps
ordered ps h = record { length = length_ordered ps; sorted = sorted ps h; addresses = λ pair. address_ordered ps pair h }
