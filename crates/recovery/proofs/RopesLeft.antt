-- Which ropes rows have that go together, and how they are settled one after another.
use Rattle.std.proofs.Common.{◌≡◌, ℕ, ◌==◌, Bool, true, false, cond, not, ◌&&◌, ◌||◌, List, [], ◌∷◌, ◌++◌, map, Some, None, refl, sym, ◌∙◌, ap, ap₂}
use Rattle.std.specs.Prelude.{filter, bytes_eq}
use Rattle.std.specs.List.{list_any}
use Rattle.std.proofs.lemmas.Bool.{eqb-true}
use Rattle.std.proofs.lemmas.List.Folds.{list_any-append}
use Rattle.voice_units.specs.declared.shapes.Graces.{Graces}
use Rattle.voice_model.specs.State.{row_at, is_row, has_row, class_number, among}
use Rattle.voice_model.specs.Changes.{wait_of}
use Rattle.voice_model.specs.Valid.{Once}
use Rattle.voice_model.specs.declared.calls.Row.{Row}
use Rattle.voice_model.specs.declared.calls.Class.{Class}
use Rattle.interest_table.specs.Table.{is_named}
use Rattle.interest_table.proofs.Found.{others, is_that_row}
use Rattle.rope_table.specs.declared.ropes.Rope.{Rope}
use Rattle.rope_table.specs.Table.{settled}
use Rattle.recovery.specs.Shown.{RowsGone, left_idle, rows_without}
use Rattle.recovery.proofs.Ropes.{cons_same, swapped}
use Rattle.recovery.proofs.RowsGone.{filter_none}

or_false : (b : Bool) → (b || false) ≡ b
or_false true = refl
or_false false = refl

-- ---- which ropes rows have

-- a rope has a row that passes one of two tests
has_either : (p q r : Row → Bool) → ((row : Row) → r row ≡ (p row || q row)) → (rows : List Row) (id : ℕ) → has_row (filter r rows) id ≡ (has_row (filter p rows) id || has_row (filter q rows) id)
has_either p q r same [] id = refl
has_either p q r same (row ∷ rows) id =
    ap (λ b. has_row (cond b (row ∷ filter r rows) (filter r rows)) id) (same row)
    ∙ by_tests (p row) (q row) (has_either p q r same rows id)
    ∙ sym (ap₂ (λ a b. a || b) (in_front (p row) (filter p rows)) (in_front (q row) (filter q rows)))
  where
    in_front : (b : Bool) (left : List Row) → has_row (cond b (row ∷ left) left) id ≡ cond b ((row.rope == id) || has_row left id) (has_row left id)
    in_front true left = refl
    in_front false left = refl

    both : (a x y z : Bool) → z ≡ (x || y) → (a || z) ≡ ((a || x) || (a || y))
    both true x y z e = refl
    both false x y z e = e

    first : (a x y z : Bool) → z ≡ (x || y) → (a || z) ≡ ((a || x) || y)
    first true x y z e = refl
    first false x y z e = e

    second : (a x y z : Bool) → z ≡ (x || y) → (a || z) ≡ (x || (a || y))
    second true true y z e = refl
    second true false y z e = refl
    second false x y z e = e

    by_tests : (s t : Bool) → has_row (filter r rows) id ≡ (has_row (filter p rows) id || has_row (filter q rows) id) → has_row (cond (s || t) (row ∷ filter r rows) (filter r rows)) id ≡ (cond s ((row.rope == id) || has_row (filter p rows) id) (has_row (filter p rows) id) || cond t ((row.rope == id) || has_row (filter q rows) id) (has_row (filter q rows) id))
    by_tests true true e = both (row.rope == id) (has_row (filter p rows) id) (has_row (filter q rows) id) (has_row (filter r rows) id) e
    by_tests true false e = first (row.rope == id) (has_row (filter p rows) id) (has_row (filter q rows) id) (has_row (filter r rows) id) e
    by_tests false true e = second (row.rope == id) (has_row (filter p rows) id) (has_row (filter q rows) id) (has_row (filter r rows) id) e
    by_tests false false e = e

-- a rope has a row that passes a test, or another one
has_any : (test : Row → Bool) (rows : List Row) (id : ℕ) → has_row rows id ≡ (has_row (filter test rows) id || has_row (filter (λ row. not (test row)) rows) id)
has_any test rows id =
    ap (λ l. has_row l id) (sym (filter_none (λ (row : Row). true) (λ row. refl) rows))
    ∙ has_either test (λ row. not (test row)) (λ row. true) (λ row. one_of (test row)) rows id
  where
    one_of : (b : Bool) → true ≡ (b || not b)
    one_of true = refl
    one_of false = refl

-- no row of a class and key
none_here : (class : Class) (key : List ℕ) (rows : List Row) (id : ℕ) → row_at rows class key ≡ None → has_row (filter (is_row class key) rows) id ≡ false
none_here class key [] id h = refl
none_here class key (row ∷ rows) id h = by_test (is_row class key row) h (none_here class key rows id)
  where
    by_test : (b : Bool) → cond b (Some row) (row_at rows class key) ≡ None → (row_at rows class key ≡ None → has_row (filter (is_row class key) rows) id ≡ false) → has_row (cond b (row ∷ filter (is_row class key) rows) (filter (is_row class key) rows)) id ≡ false
    by_test true e rest = cc
    by_test false e rest = rest e

-- the row of a class and key is the only one
one_here : (class : Class) (key : List ℕ) (found : Row) (rows : List Row) (id : ℕ) → row_at rows class key ≡ Some found → Once rows → has_row (filter (is_row class key) rows) id ≡ (found.rope == id)
one_here class key found [] id h once = cc
one_here class key found (row ∷ rows) id h once = by_test (is_row class key row) refl h (λ e. one_here class key found rows id e once.1)
  where
    by_test : (b : Bool) → is_row class key row ≡ b → cond b (Some row) (row_at rows class key) ≡ Some found → (row_at rows class key ≡ Some found → has_row (filter (is_row class key) rows) id ≡ (found.rope == id)) → has_row (cond b (row ∷ filter (is_row class key) rows) (filter (is_row class key) rows)) id ≡ (found.rope == id)
    by_test true is e rest =
        let that = is_that_row class key row is in
        let same : row ≡ found = cc in
        let none : row_at rows class key ≡ None = sym (ap₂ (λ c k. row_at rows c k) that.0 that.1) ∙ once.0 in
        ap (λ b. (row.rope == id) || b) (none_here class key rows id none) ∙ or_false (row.rope == id) ∙ ap (λ (x : Row). x.rope == id) same
    by_test false is e rest = rest e

-- a rope has a row of one key, or of the others
key_of_several : (class : Class) (key : List ℕ) (keys : List (List ℕ)) (rows : List Row) (id : ℕ) → has_row (filter (is_named class (key ∷ keys)) rows) id ≡ (has_row (filter (is_row class key) rows) id || has_row (filter (is_named class keys) rows) id)
key_of_several class key keys rows id =
    has_either (is_row class key) (is_named class keys) (is_named class (key ∷ keys)) (λ row. split (class_number row.class == class_number class) (bytes_eq row.key key) (list_any (bytes_eq row.key) keys)) rows id
  where
    split : (a b c : Bool) → (a && (b || c)) ≡ ((a && b) || (a && c))
    split true b c = refl
    split false b c = refl

-- ---- the ropes of several keys, gathered one after another

-- the ropes gathered so far, and those of the keys that are left
abbrev pub AreGathered : Class → List (List ℕ) → List (List ℕ) → List Row → List ℕ → Type 0
AreGathered class keys left rows ropes = (id : ℕ) → (has_row (filter (is_named class left) rows) id || among ropes id) ≡ has_row (filter (is_named class keys) rows) id

pub gathered_one : (class : Class) (keys : List (List ℕ)) (key : List ℕ) (left : List (List ℕ)) (rows : List Row) (ropes : List ℕ) (found : Row) → row_at rows class key ≡ Some found → Once rows → AreGathered class keys (key ∷ left) rows ropes → AreGathered class keys left rows (ropes ++ found.rope ∷ [])
gathered_one class keys key left rows ropes found there once h id =
    ap (λ b. has_row (filter (is_named class left) rows) id || b) (list_any-append (λ other. other == id) ropes (found.rope ∷ []))
    ∙ turned (has_row (filter (is_named class left) rows) id) (among ropes id) (found.rope == id)
    ∙ ap (λ b. (b || has_row (filter (is_named class left) rows) id) || among ropes id) (sym (one_here class key found rows id there once))
    ∙ ap (λ b. b || among ropes id) (sym (key_of_several class key left rows id)) ∙ h id
  where
    turned : (a b c : Bool) → (a || (b || (c || false))) ≡ ((c || a) || b)
    turned true b true = refl
    turned true b false = refl
    turned false true true = refl
    turned false true false = refl
    turned false false true = refl
    turned false false false = refl

pub gathered_no_row : (class : Class) (keys : List (List ℕ)) (key : List ℕ) (left : List (List ℕ)) (rows : List Row) (ropes : List ℕ) → row_at rows class key ≡ None → AreGathered class keys (key ∷ left) rows ropes → AreGathered class keys left rows ropes
gathered_no_row class keys key left rows ropes none h id =
    ap (λ b. (b || has_row (filter (is_named class left) rows) id) || among ropes id) (sym (none_here class key rows id none))
    ∙ ap (λ b. b || among ropes id) (sym (key_of_several class key left rows id)) ∙ h id

pub gathered_all : (class : Class) (keys : List (List ℕ)) (rows : List Row) (ropes : List ℕ) → AreGathered class keys [] rows ropes → (id : ℕ) → among ropes id ≡ has_row (filter (is_named class keys) rows) id
gathered_all class keys rows ropes h id = ap (λ b. b || among ropes id) (sym (none_named rows)) ∙ h id
  where
    never : (b : Bool) → (b && false) ≡ false
    never true = refl
    never false = refl

    none_named : (rows : List Row) → has_row (filter (is_named class []) rows) id ≡ false
    none_named [] = refl
    none_named (row ∷ rows) = ap (λ b. has_row (cond b (row ∷ filter (is_named class []) rows) (filter (is_named class []) rows)) id) (never (class_number row.class == class_number class)) ∙ none_named rows

-- ---- whose rows went

-- the rows of keys went
pub named_gone : (class : Class) (keys : List (List ℕ)) (rows : List Row) (ropes : List ℕ) → ((id : ℕ) → among ropes id ≡ has_row (filter (is_named class keys) rows) id) → RowsGone ropes rows (rows_without class keys rows)
named_gone class keys rows ropes h id = has_any (is_named class keys) rows id ∙ ap (λ b. b || has_row (rows_without class keys rows) id) (sym (h id))

-- the row of one key went
pub one_gone : (class : Class) (key : List ℕ) (found : Row) (rows : List Row) → row_at rows class key ≡ Some found → Once rows → RowsGone (found.rope ∷ []) rows (others class key rows)
one_gone class key found rows there once id =
    has_any (is_row class key) rows id ∙ ap (λ b. b || has_row (others class key rows) id) (one_here class key found rows id there once ∙ sym (or_false (found.rope == id)))

-- keys as a set
pub same_named : (class : Class) (keys set : List (List ℕ)) → ((key : List ℕ) → list_any (bytes_eq key) set ≡ list_any (bytes_eq key) keys) → (rows : List Row) → filter (λ row. not (is_named class set row)) rows ≡ rows_without class keys rows
same_named class keys set h rows = λ i. filter (λ row. not ((class_number row.class == class_number class) && h row.key i)) rows

-- ---- ropes that are left without a row

abbrev idle_rope : ℕ → Graces → ℕ → ℕ → Rope → Rope
idle_rope form graces now class rope = let last = cond (form == 2) class 0 in record rope { idle = now; last = last; wait = wait_of graces last; kept = false }

left_by : (form : ℕ) (graces : Graces) (now class : ℕ) (rows : List Row) (ids : List ℕ) (rope : Rope) (b c : Bool) → among ids rope.id ≡ b → has_row rows rope.id ≡ c → left_idle form graces now class rows ids rope ≡ cond (b && not c) (idle_rope form graces now class rope) rope
left_by form graces now class rows ids rope b c e f = ap₂ (λ b c. cond (b && not c) (idle_rope form graces now class rope) rope) e f

-- a rope that has a row stays as it is
pub left_as_it_is : (form : ℕ) (graces : Graces) (now class : ℕ) (rows : List Row) (id : ℕ) → has_row rows id ≡ true → (ropes : List Rope) → ropes ≡ map (left_idle form graces now class rows (id ∷ [])) ropes
left_as_it_is form graces now class rows id has [] = refl
left_as_it_is form graces now class rows id has (rope ∷ ropes) = cons_same (sym (one (id == rope.id) refl)) (left_as_it_is form graces now class rows id has ropes)
  where
    one : (b : Bool) → (id == rope.id) ≡ b → left_idle form graces now class rows (id ∷ []) rope ≡ rope
    one true e = left_by form graces now class rows (id ∷ []) rope true true (ap (λ b. b || false) e) (ap (has_row rows) (sym (eqb-true id rope.id e)) ∙ has)
    one false e = left_by form graces now class rows (id ∷ []) rope false (has_row rows rope.id) (ap (λ b. b || false) e) refl

-- one that has none is idle
pub left_once : (form : ℕ) (graces : Graces) (now class : ℕ) (rows : List Row) (id last wait : ℕ) → has_row rows id ≡ false → last ≡ cond (form == 2) class 0 → wait ≡ wait_of graces last → (ropes : List Rope) → map (settled id now last wait) ropes ≡ map (left_idle form graces now class rows (id ∷ [])) ropes
left_once form graces now class rows id last wait has is waits [] = refl
left_once form graces now class rows id last wait has is waits (rope ∷ ropes) = cons_same (one (rope.id == id) refl) (left_once form graces now class rows id last wait has is waits ropes)
  where
    idle : Rope
    idle = record rope { idle = now; last = last; wait = wait; kept = false }

    one : (b : Bool) → (rope.id == id) ≡ b → settled id now last wait rope ≡ left_idle form graces now class rows (id ∷ []) rope
    one true e =
        ap (λ b. cond b idle rope) e
        ∙ ap (λ w. let x : Rope = record rope { idle = now; last = last; wait = w; kept = false } in x) waits
        ∙ ap (λ n. let x : Rope = record rope { idle = now; last = n; wait = wait_of graces n; kept = false } in x) is
        ∙ sym (left_by form graces now class rows (id ∷ []) rope true false (ap (λ b. b || false) (swapped id rope.id ∙ e)) (ap (has_row rows) (eqb-true rope.id id e) ∙ has))
    one false e =
        ap (λ b. cond b idle rope) e
        ∙ sym (left_by form graces now class rows (id ∷ []) rope false (has_row rows rope.id) (ap (λ b. b || false) (swapped id rope.id ∙ e)) refl)

-- one of several
pub left_step : (form : ℕ) (graces : Graces) (now class : ℕ) (rows : List Row) (id : ℕ) (ids : List ℕ) (ropes : List Rope) → map (left_idle form graces now class rows (id ∷ ids)) ropes ≡ map (left_idle form graces now class rows ids) (map (left_idle form graces now class rows (id ∷ [])) ropes)
left_step form graces now class rows id ids [] = refl
left_step form graces now class rows id ids (rope ∷ ropes) =
    cons_same
    (twice (id == rope.id) (among ids rope.id) (has_row rows rope.id) (idle_rope form graces now class rope) rope
    ∙ sym (again (((id == rope.id) || false) && not (has_row rows rope.id))))
    (left_step form graces now class rows id ids ropes)
  where
    twice : (a b c : Bool) (x y : Rope) → cond ((a || b) && not c) x y ≡ cond (b && not c) x (cond ((a || false) && not c) x y)
    twice true true true x y = refl
    twice true true false x y = refl
    twice true false true x y = refl
    twice true false false x y = refl
    twice false true true x y = refl
    twice false true false x y = refl
    twice false false c x y = refl

    again : (b : Bool) → left_idle form graces now class rows ids (cond b (idle_rope form graces now class rope) rope) ≡ cond (among ids rope.id && not (has_row rows rope.id)) (idle_rope form graces now class rope) (cond b (idle_rope form graces now class rope) rope)
    again true = refl
    again false = refl

-- none
pub left_none : (form : ℕ) (graces : Graces) (now class : ℕ) (rows : List Row) (ropes : List Rope) → map (left_idle form graces now class rows []) ropes ≡ ropes
left_none form graces now class rows [] = refl
left_none form graces now class rows (rope ∷ ropes) = ap (λ l. rope ∷ l) (left_none form graces now class rows ropes)
