-- What a row holds.
--     Row      the values in order, and how many more fit without memory
--     flat     the values of chunks, one chunk after another
--     IsDense  each chunk but the last is half full
--     AreEmpty each chunk is empty
--     room_of  how many values so many chunks hold for certain
--     IsRow    the parts of a row fit together
--     Stands   the k-th value stands at a place of a chunk
--     passing  how many values in front pass a test
--     IsChanged  a call made of the k-th value another, and of no other value
use Rattle.std.specs.Prelude.{◌≡◌, ℕ, ◌+◌, ◌*◌, ◌^◌, ◌<◌, ◌≤◌, min, suc, Bool, cond, List, [], ◌∷◌, ◌++◌, length, take, slice_get, slice_set, slice_index_or, Some, refl}
use Rattle.std.specs.Borrow.{MutBor}
use Rattle.std.specs.Fn.{Once, FnOnceReturnsAtMut}
use Rattle.std.specs.Coded.{Coded, code_by, coded×, coded_list, coded_ℕ}

pub record Row (X : Type 0) : Type 0 where
  pub items : List X
  pub spare : ℕ

abbrev pub row_code : {X : Type 0} → Coded X → Coded (Row X)
row_code {X} code = code_by (List X × ℕ) (coded× (coded_list code) coded_ℕ) (λ r. (r.items, r.spare)) (λ p. record { items = p.0; spare = p.1 }) (λ _. refl)

-- the values of chunks, one chunk after another
abbrev pub flat : {X : Type 0} → List (List X) → List X
flat [] = []
flat (c ∷ cs) = c ++ flat cs

-- each chunk but the last is half full
abbrev pub IsDense : {X : Type 0} → List (List X) → Type 0
IsDense [] = Unit {0}
IsDense (c ∷ cs) = (0 < length cs → 128 ≤ length c) × IsDense cs

-- each chunk is empty
abbrev pub AreEmpty : {X : Type 0} → List (List X) → Type 0
AreEmpty [] = Unit {0}
AreEmpty (c ∷ cs) = (c ≡ []) × AreEmpty cs

-- how many values so many chunks hold for certain
abbrev pub room_of : ℕ → ℕ
room_of n = min (128 * n) (2 ^ 48)

-- the parts of a row fit together
pub record IsRow {X : Type 0} (chunks : List (List X)) (chunk_room : ℕ) (stock : List (List X)) (stock_room len : ℕ) : Type 0 where
  pub counted : len ≡ length (flat chunks)
  pub dense : IsDense chunks
  pub empty : AreEmpty stock
  pub chunks_fit : length chunks + length stock ≤ chunk_room
  pub stock_fits : length chunks + length stock ≤ stock_room
  pub fits : len ≤ room_of (length chunks + length stock)

-- the k-th value stands at this place of this chunk
abbrev pub Stands : {X : Type 0} → List (List X) → ℕ → ℕ → ℕ → Type 0
Stands cs i place k = (i < length cs) × (place < length (slice_index_or cs i [])) × (k ≡ length (flat (take i cs)) + place)

-- how many values in front pass a test
abbrev pub passing : {X : Type 0} → (X → Bool) → List X → ℕ
passing p [] = 0
passing p (x ∷ xs) = cond (p x) (suc (passing p xs)) 0

-- a call at the k-th value gave r and left another value there, and no other value changed
pub record IsChanged {F X R : Type 0} (g : Once F (MutBor X × Unit {0}) (R × (MutBor X × Unit {0}))) (f : F) (old new : List X) (k : ℕ) (r : R) : Type 0 where
  pub before : X
  pub after : X
  pub there : slice_get old k ≡ Some before
  pub called : FnOnceReturnsAtMut g f before r after
  pub others : new ≡ slice_set old k after
