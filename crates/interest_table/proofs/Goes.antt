-- Rows go one after another.
use Rattle.std.proofs.Common.{◌≡◌, ℕ, List, [], ◌∷◌, filter, length, ◌<◌, ◌≤◌, not, ap, ap₂, ◌∙◌, sym, refl, cond, Bool, true, false, ◌&&◌, ◌||◌, ◌==◌, Option, Some, None, arith}
use Rattle.std.specs.Prelude.{unwrap_or, bytes_eq}
use Rattle.std.specs.List.{list_any}
use Rattle.voice_model.specs.State.{class_number, is_row, row_at}
use Rattle.voice_model.specs.Valid.{Once}
use Rattle.voice_model.specs.declared.calls.Row.{Row}
use Rattle.voice_model.specs.declared.calls.Class.{Class}
use Rattle.interest_table.specs.Table.{is_named}
use Rattle.interest_table.proofs.Found.{others, all_stay, is_that_row}

-- ---- the row of a name

named_row : (a b : Row) → Some a ≡ Some b → a ≡ b
named_row a b h = ap (λ (o : Option Row). unwrap_or o a) h

-- where the row of a name fails a test, the rows that pass stay when it goes
pub fails_named : (test : Row → Bool) (class : Class) (key : List ℕ) (r : Row) (rows : List Row) → Once rows → row_at rows class key ≡ Some r → test r ≡ false → filter test (others class key rows) ≡ filter test rows
fails_named test class key r [] once at fails = cc
fails_named test class key r (x ∷ xs) once at fails = by (is_row class key x) refl at (fails_named test class key r xs once.1)
  where
    by : (b : Bool) → is_row class key x ≡ b → cond b (Some x) (row_at xs class key) ≡ Some r → (row_at xs class key ≡ Some r → test r ≡ false → filter test (others class key xs) ≡ filter test xs) → filter test (cond (not b) (x ∷ others class key xs) (others class key xs)) ≡ cond (test x) (x ∷ filter test xs) (filter test xs)
    by true is k rest =
        let that = is_that_row class key x is in
        let none : row_at xs class key ≡ None = sym (ap₂ (λ c k. row_at xs c k) that.0 that.1) ∙ once.0 in
        ap (filter test) (all_stay class key xs none) ∙ ap (λ b. cond b (x ∷ filter test xs) (filter test xs)) (sym (ap test (named_row x r k) ∙ fails))
    by false is k rest = ap (λ l. cond (test x) (x ∷ l) l) (rest k fails)

no_more : (class : Class) (key : List ℕ) (rows : List Row) → length (others class key rows) ≤ length rows
no_more class key [] = omega arith
no_more class key (x ∷ xs) = by (is_row class key x) (no_more class key xs)
  where
    by : (b : Bool) → length (others class key xs) ≤ length xs → length (cond (not b) (x ∷ others class key xs) (others class key xs)) ≤ length (x ∷ xs)
    by true rest = omega (arith, rest)
    by false rest = omega (arith, rest)

-- there are fewer rows once one went
pub fewer_named : (class : Class) (key : List ℕ) (r : Row) (rows : List Row) → row_at rows class key ≡ Some r → length (others class key rows) < length rows
fewer_named class key r [] at = cc
fewer_named class key r (x ∷ xs) at = by (is_row class key x) at (fewer_named class key r xs)
  where
    by : (b : Bool) → cond b (Some x) (row_at xs class key) ≡ Some r → (row_at xs class key ≡ Some r → length (others class key xs) < length xs) → length (cond (not b) (x ∷ others class key xs) (others class key xs)) < length (x ∷ xs)
    by true k rest = let most = no_more class key xs in omega (arith, most)
    by false k rest = let less = rest k in omega (arith, less)

-- ---- the rows of several keys

-- the rows but for those of a class with these keys
abbrev pub unnamed : Class → List (List ℕ) → List Row → List Row
unnamed class keys rows = filter (λ row. not (is_named class keys row)) rows

-- those of no key are all
pub all_unnamed : (class : Class) (rows : List Row) → unnamed class [] rows ≡ rows
all_unnamed class [] = refl
all_unnamed class (r ∷ rows) = by (class_number r.class == class_number class) (all_unnamed class rows)
  where
    by : (b : Bool) → unnamed class [] rows ≡ rows → cond (not (b && false)) (r ∷ unnamed class [] rows) (unnamed class [] rows) ≡ r ∷ rows
    by true rest = ap (λ l. r ∷ l) rest
    by false rest = ap (λ l. r ∷ l) rest

-- first the rows of one key go, then those of the others
pub key_first : (class : Class) (key : List ℕ) (keys : List (List ℕ)) (rows : List Row) → unnamed class keys (others class key rows) ≡ unnamed class (key ∷ keys) rows
key_first class key keys [] = refl
key_first class key keys (r ∷ rows) = by (class_number r.class == class_number class) refl (bytes_eq r.key key) (list_any (bytes_eq r.key) keys) refl (key_first class key keys rows)
  where
    by : (b : Bool) → (class_number r.class == class_number class) ≡ b → (k : Bool) (a : Bool) → list_any (bytes_eq r.key) keys ≡ a → unnamed class keys (others class key rows) ≡ unnamed class (key ∷ keys) rows
        → unnamed class keys (cond (not (b && k)) (r ∷ others class key rows) (others class key rows)) ≡ cond (not (b && (k || a))) (r ∷ unnamed class (key ∷ keys) rows) (unnamed class (key ∷ keys) rows)
    by true e true a f rest = rest
    by true e false a f rest = ap₂ (λ x y. cond (not (x && y)) (r ∷ unnamed class keys (others class key rows)) (unnamed class keys (others class key rows))) e f ∙ ap (λ l. cond (not a) (r ∷ l) l) rest
    by false e k a f rest = ap (λ x. cond (not (x && list_any (bytes_eq r.key) keys)) (r ∷ unnamed class keys (others class key rows)) (unnamed class keys (others class key rows))) e ∙ ap (λ l. r ∷ l) rest
