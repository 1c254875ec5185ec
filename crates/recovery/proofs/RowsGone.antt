-- Rows that go: the ropes stay live, and a census is legal or not.
use Rattle.std.proofs.Common.{◌≡◌, ℕ, suc, ◌+◌, ◌<◌, ◌==◌, Bool, true, false, cond, not, ◌&&◌, ◌||◌, List, [], ◌∷◌, map, length, Option, Some, refl, sym, ◌∙◌, ap, get_or, drop, drop-cons, add-one}
use Rattle.std.specs.Prelude.{is_some, filter, bytes_eq}
use Rattle.std.specs.List.{list_any}
use Rattle.std.proofs.lemmas.Slice.Eq.{bytes_eq-Decides}
use Rattle.voice_units.specs.Spots.{Spot}
use Rattle.voice_model.specs.State.{Live, rope_at, is_live, row_at, is_row, has_row, settled, class_number}
use Rattle.voice_model.specs.Changes.{rows_left}
use Rattle.voice_model.specs.declared.calls.Row.{Row}
use Rattle.voice_model.specs.declared.calls.Class.{Class}
use Rattle.voice_model.specs.declared.calls.Class.TheVariants.{Listed}
use Rattle.voice_model.specs.Replay.{each_listed}
use Rattle.recovery.specs.Shown.{rows_without}
use Rattle.recovery.proofs.Ropes.{swapped}

-- ---- which ropes stay live

settled_id : (form now class : ℕ) (b : Bool) (rope : Live Spot) → (cond b (record rope { idle = now; last = cond (form == 2) class rope.last }) rope).id ≡ rope.id
settled_id form now class true rope = refl
settled_id form now class false rope = refl

live_either : (b : Bool) (x y : Live Spot) (o q : Option (Live Spot)) → is_some o ≡ is_some q → is_some (cond b (Some x) o) ≡ is_some (cond b (Some y) q)
live_either true x y o q e = refl
live_either false x y o q e = e

live_map : (f : Live Spot → Live Spot) → ((rope : Live Spot) → (f rope).id ≡ rope.id) → (ropes : List (Live Spot)) (id : ℕ) → is_live (map f ropes) id ≡ is_live ropes id
live_map f same [] id = refl
live_map f same (rope ∷ ropes) id =
    ap (λ n. is_some (cond (n == id) (Some (f rope)) (rope_at (map f ropes) id))) (same rope)
    ∙ live_either (rope.id == id) (f rope) rope (rope_at (map f ropes) id) (rope_at ropes id) (live_map f same ropes id)

pub live_settled : (form now class : ℕ) (before after : List Row) (ropes : List (Live Spot)) (id : ℕ) → is_live (map (settled form now class before after) ropes) id ≡ is_live ropes id
live_settled form now class before after ropes id = live_map (settled form now class before after) (λ rope. settled_id form now class (has_row before rope.id && not (has_row after rope.id)) rope) ropes id

-- ---- rows that pass tests

pub filter_twice : {A : Type 0} (p q r : A → Bool) → ((x : A) → r x ≡ (p x && q x)) → (xs : List A) → filter r xs ≡ filter q (filter p xs)
filter_twice p q r same [] = refl
filter_twice p q r same (x ∷ xs) = ap (λ b. cond b (x ∷ filter r xs) (filter r xs)) (same x) ∙ by_test (p x) (filter_twice p q r same xs)
  where
    by_test : (b : Bool) → filter r xs ≡ filter q (filter p xs) → cond (b && q x) (x ∷ filter r xs) (filter r xs) ≡ filter q (cond b (x ∷ filter p xs) (filter p xs))
    by_test true e = ap (λ l. cond (q x) (x ∷ l) l) e
    by_test false e = e

pub filter_none : {A : Type 0} (p : A → Bool) → ((x : A) → p x ≡ true) → (xs : List A) → filter p xs ≡ xs
filter_none p h [] = refl
filter_none p h (x ∷ xs) = ap (λ b. cond b (x ∷ filter p xs) (filter p xs)) (h x) ∙ ap (λ l. x ∷ l) (filter_none p h xs)

and_false : (a : Bool) → not (a && false) ≡ true
and_false true = refl
and_false false = refl

pub none_left : (class : Class) (rows : List Row) → rows_without class [] rows ≡ rows
none_left class rows = filter_none (λ (row : Row). not ((class_number row.class == class_number class) && false)) (λ row. and_false (class_number row.class == class_number class)) rows

-- ---- the keys of a census

-- whether a key has a row after others went
row_left : (rows : List Row) (seen : List (List ℕ)) (key : List ℕ) → is_some (row_at (rows_left rows seen) Listed key) ≡ (is_some (row_at rows Listed key) && not (list_any (bytes_eq key) seen))
row_left [] seen key = refl
row_left (row ∷ rows) seen key =
    kept_or (not ((class_number row.class == 3) && list_any (bytes_eq row.key) seen)) row (rows_left rows seen) key
    ∙ tests (class_number row.class == 3) (bytes_eq row.key key) (list_any (bytes_eq row.key) seen) (list_any (bytes_eq key) seen) (is_some (row_at rows Listed key)) (is_some (row_at (rows_left rows seen) Listed key))
    (λ e. ap (λ (k : List ℕ). list_any (bytes_eq k) seen) (same_text row.key key e)) (row_left rows seen key)
    ∙ ap (λ b. b && not (list_any (bytes_eq key) seen)) (sym (some_or (is_row Listed key row) row (row_at rows Listed key)))
  where
    some_or : (b : Bool) (row : Row) (o : Option Row) → is_some (cond b (Some row) o) ≡ (b || is_some o)
    some_or true row o = refl
    some_or false row o = refl

    kept_or : (b : Bool) (row : Row) (rows : List Row) (key : List ℕ) → is_some (row_at (cond b (row ∷ rows) rows) Listed key) ≡ ((b && is_row Listed key row) || is_some (row_at rows Listed key))
    kept_or true row rows key = some_or (is_row Listed key row) row (row_at rows Listed key)
    kept_or false row rows key = refl

    none : (s : Bool) → (s && false) ≡ false
    none true = refl
    none false = refl

    same_text : (x y : List ℕ) → bytes_eq x y ≡ true → x ≡ y
    same_text x y e = (bytes_eq-Decides x y).0 e

    tests : (a b m n s t : Bool) → (b ≡ true → m ≡ n) → t ≡ (s && not n) → ((not (a && m) && (a && b)) || t) ≡ (((a && b) || s) && not n)
    tests true true m n s t same e = ap (λ m. (not m && true) || t) (same refl) ∙ ap (λ t. (not n && true) || t) e ∙ last n s
      where
        last : (n s : Bool) → ((not n && true) || (s && not n)) ≡ not n
        last true true = refl
        last true false = refl
        last false s = refl
    tests true false m n s t same e = ap (λ b. b || t) (none (not m)) ∙ e
    tests false b m n s t same e = e

-- the rows without noted keys, and without one more
pub left_more : (rows : List Row) (seen more : List (List ℕ)) (key : List ℕ) → ((other : List ℕ) → list_any (bytes_eq other) more ≡ (bytes_eq key other || list_any (bytes_eq other) seen)) → rows_left rows more ≡ rows_left (rows_left rows seen) (key ∷ [])
left_more rows seen more key h =
    filter_twice (λ (row : Row). not ((class_number row.class == 3) && list_any (bytes_eq row.key) seen)) (λ (row : Row). not ((class_number row.class == 3) && (bytes_eq row.key key || false))) (λ (row : Row). not ((class_number row.class == 3) && list_any (bytes_eq row.key) more))
    (λ row. ap (λ b. not ((class_number row.class == 3) && b)) (h row.key ∙ ap (λ b. b || list_any (bytes_eq row.key) seen) (turned key row.key)) ∙ split (class_number row.class == 3) (bytes_eq row.key key) (list_any (bytes_eq row.key) seen)) rows
  where
    split : (a b c : Bool) → not (a && (b || c)) ≡ (not (a && c) && not (a && (b || false)))
    split true true true = refl
    split true true false = refl
    split true false true = refl
    split true false false = refl
    split false b c = refl

    turned : (x y : List ℕ) → bytes_eq x y ≡ bytes_eq y x
    turned [] [] = refl
    turned [] (y ∷ ys) = refl
    turned (x ∷ xs) [] = refl
    turned (x ∷ xs) (y ∷ ys) = ap (λ b. b && bytes_eq xs ys) (swapped x y) ∙ ap (λ b. (y == x) && b) (turned xs ys)

-- a census whose next key has no row any more
pub census_stops : (rows : List Row) (seen : List (List ℕ)) (key : List ℕ) (keys : List (List ℕ)) (b c : Bool) → is_some (row_at rows Listed key) ≡ b → list_any (bytes_eq key) seen ≡ c → (b && not c) ≡ false → each_listed (rows_left rows seen) (key ∷ keys) ≡ false
census_stops rows seen key keys b c e f h = ap (λ x. x && each_listed (rows_left (rows_left rows seen) (key ∷ [])) keys) (row_left rows seen key ∙ ap (λ x. x && not (list_any (bytes_eq key) seen)) e ∙ ap (λ x. b && not x) f ∙ h)

pub census_goes_on : (rows : List Row) (seen more : List (List ℕ)) (key : List ℕ) (keys : List (List ℕ)) → is_some (row_at rows Listed key) ≡ true → list_any (bytes_eq key) seen ≡ false
    → ((other : List ℕ) → list_any (bytes_eq other) more ≡ (bytes_eq key other || list_any (bytes_eq other) seen)) → each_listed (rows_left rows seen) (key ∷ keys) ≡ each_listed (rows_left rows more) keys
census_goes_on rows seen more key keys e f h =
    ap (λ x. x && each_listed (rows_left (rows_left rows seen) (key ∷ [])) keys) (row_left rows seen key ∙ ap (λ x. x && not (list_any (bytes_eq key) seen)) e ∙ ap not f)
    ∙ ap (λ l. each_listed l keys) (sym (left_more rows seen more key h))

pub drop_next : {A : Type 0} (xs : List A) (k : ℕ) (x : A) → k < length xs → x ≡ get_or xs k x → drop k xs ≡ x ∷ drop (k + 1) xs
drop_next xs k x h e = drop-cons xs k x h ∙ ap (λ y. y ∷ drop (suc k) xs) (sym e) ∙ ap (λ n. x ∷ drop n xs) (sym (add-one k))
