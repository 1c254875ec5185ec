-- The rows of a rope that are expired, and the ropes that thereby lose their last row.
use Rattle.std.proofs.Common.{◌≡◌, ℕ, ◌+◌, ◌≤◌, List, [], ◌∷◌, length, map, filter, Bool, true, false, not, ◌&&◌, ◌||◌, ◌==◌, nat_le, nat_lt, cond, Some, None, refl, sym, ◌∙◌, ap, arith}
use Rattle.std.specs.Prelude.{unwrap_or, option_map}
use Rattle.std.proofs.lemmas.Bool.{false≢true, eqb-true, eqb-false, lt-ltb, le-ltb}
use Rattle.voice_model.specs.declared.calls.Row.{Row}
use Rattle.voice_model.specs.State.{has_row}
use Rattle.voice_model.specs.Changes.{is_expired}
use Rattle.interest_table.specs.Table.{rows_of, expired_owners}
use Rattle.rope_table.specs.declared.ropes.Rope.{Rope}
use Rattle.rope_table.specs.declared.dues.Due.{Due}
use Rattle.rope_table.specs.Table.{Every, IsInOrder, is_lower, is_sooner, put_in, rope_of, index_of, due_of}
use Rattle.rope_table.proofs.InOrder.{split}
use Rattle.rope_table.proofs.ById.{none_behind}
use Rattle.collector.specs.Due.{once, copies, is_by, ids_by, rows_kept, is_kept, is_gone, gone_ids, has_only_expired}

-- ---- rows

and_none : (b : Bool) → once (b && false) ≡ 0
and_none true = refl
and_none false = refl

either : (a b : Bool) → once b ≡ once (a && b) + once (not a && b)
either true true = refl
either true false = refl
either false true = refl
either false false = refl

kept_row : (a b : Bool) (row : Row) (rows : List Row) (id : ℕ) → (row.rope == id) ≡ b → rows_of id (cond (not a) (row ∷ rows) rows) ≡ once (not a && b) + rows_of id rows
kept_row true b row rows id e = omega arith
kept_row false b row rows id e = ap (λ t. cond t 1 0 + rows_of id rows) e

expired_row : (a b : Bool) (row : Row) (rows : List Row) (id : ℕ) → (row.rope == id) ≡ b → copies id (map (λ (row : Row). row.rope) (cond a (row ∷ rows) rows)) ≡ once (a && b) + copies id (map (λ (row : Row). row.rope) rows)
expired_row true b row rows id e = ap (λ t. once t + copies id (map (λ (row : Row). row.rope) rows)) e
expired_row false b row rows id e = omega arith

-- the rows of a rope are those that are expired and those that are not
pub rows_split : (now id : ℕ) (rows : List Row) → rows_of id rows ≡ copies id (expired_owners now rows) + rows_of id (rows_kept now rows)
rows_split now id [] = refl
rows_split now id (row ∷ rows) =
    let rest = rows_split now id rows in
    let one = either (is_expired now row) (row.rope == id) in
    let gone = expired_row (is_expired now row) (row.rope == id) row (filter (is_expired now) rows) id refl in
    let kept = kept_row (is_expired now row) (row.rope == id) row (rows_kept now rows) id refl in
    omega (arith, rest, one, gone, kept)

pub has_some : (rows : List Row) (id : ℕ) → has_row rows id ≡ nat_lt 0 (rows_of id rows)
has_some [] id = refl
has_some (row ∷ rows) id = split (row.rope == id)
    (λ e. ap (λ b. b || has_row rows id) e ∙ sym (lt-ltb 0 (rows_of id (row ∷ rows)) (let one = ap once e in omega (arith, one))))
    (λ e. ap (λ b. b || has_row rows id) e ∙ has_some rows id ∙ sym (ap (λ b. nat_lt 0 (once b + rows_of id rows)) e ∙ ap (nat_lt 0) (omega arith)))

not_some : (n : ℕ) → not (nat_lt 0 n) ≡ (n == 0)
not_some n = split (n == 0)
    (λ e. let z = eqb-true n 0 e in ap not (le-ltb 0 n (omega (arith, z))) ∙ sym e)
    (λ e. let z = eqb-false n 0 e in ap not (lt-ltb 0 n (omega (arith, z))) ∙ sym e)

-- where as many rows are left as are not expired, none is left exactly where all are
pub none_left : (now id left : ℕ) (rows : List Row) → left ≡ rows_of id (rows_kept now rows) → (left == 0) ≡ has_only_expired now rows id
none_left now id left rows same = ap (λ n. n == 0) same ∙ sym (ap not (has_some (rows_kept now rows) id) ∙ not_some (rows_of id (rows_kept now rows)))

-- ---- numbers of ropes that pass a test

abbrev pub ids_that : (Rope → Bool) → List Rope → List ℕ
ids_that test ropes = map (λ (rope : Rope). rope.id) (filter test ropes)

pub copies_if : (n : ℕ) (b : Bool) (x : Rope) (xs : List Rope) → copies n (map (λ (rope : Rope). rope.id) (cond b (x ∷ xs) xs)) ≡ once (b && (x.id == n)) + copies n (map (λ (rope : Rope). rope.id) xs)
copies_if n true x xs = refl
copies_if n false x xs = omega arith

copies_due : (n : ℕ) (b : Bool) (x : Due) (xs : List Due) → copies n (map (λ (due : Due). due.id) (cond b (x ∷ xs) xs)) ≡ once (b && (x.id == n)) + copies n (map (λ (due : Due). due.id) xs)
copies_due n true x xs = refl
copies_due n false x xs = omega arith

length_if : (b : Bool) (x : Rope) (xs : List Rope) → length (map (λ (rope : Rope). rope.id) (cond b (x ∷ xs) xs)) ≡ once b + length (map (λ (rope : Rope). rope.id) xs)
length_if true x xs = omega arith
length_if false x xs = omega arith

length_due : (b : Bool) (x : Due) (xs : List Due) → length (map (λ (due : Due). due.id) (cond b (x ∷ xs) xs)) ≡ once b + length (map (λ (due : Due). due.id) xs)
length_due true x xs = omega arith
length_due false x xs = omega arith

copies_put : (n now : ℕ) (comes : Due → Due → Bool) (x : Due) (xs : List Due) → copies n (ids_by now (put_in comes x xs)) ≡ once (is_by now x && (x.id == n)) + copies n (ids_by now xs)
copies_put n now comes x [] = copies_due n (is_by now x) x []
copies_put n now comes x (y ∷ ys) = split (comes x y)
    (λ e. ap (λ b. copies n (ids_by now (cond b (x ∷ y ∷ ys) (y ∷ put_in comes x ys)))) e ∙ copies_due n (is_by now x) x (filter (is_by now) (y ∷ ys)))
    (λ e. let rest = copies_put n now comes x ys in
    let here = ap (λ b. copies n (ids_by now (cond b (x ∷ y ∷ ys) (y ∷ put_in comes x ys)))) e in
    let one = copies_due n (is_by now y) y (filter (is_by now) (put_in comes x ys)) in
    let other = copies_due n (is_by now y) y (filter (is_by now) ys) in
    omega (arith, here, one, other, rest))

length_put : (now : ℕ) (comes : Due → Due → Bool) (x : Due) (xs : List Due) → length (ids_by now (put_in comes x xs)) ≡ once (is_by now x) + length (ids_by now xs)
length_put now comes x [] = length_due (is_by now x) x []
length_put now comes x (y ∷ ys) = split (comes x y)
    (λ e. ap (λ b. length (ids_by now (cond b (x ∷ y ∷ ys) (y ∷ put_in comes x ys)))) e ∙ length_due (is_by now x) x (filter (is_by now) (y ∷ ys)))
    (λ e. let rest = length_put now comes x ys in
    let here = ap (λ b. length (ids_by now (cond b (x ∷ y ∷ ys) (y ∷ put_in comes x ys)))) e in
    let one = length_due (is_by now y) y (filter (is_by now) (put_in comes x ys)) in
    let other = length_due (is_by now y) y (filter (is_by now) ys) in
    omega (arith, here, one, other, rest))

-- ---- the ropes that go

-- whether a rope goes whose last rows are expired
abbrev pub loses : Bool → ℕ → List Row → Rope → Bool
loses free now rows rope = rope.kept && (free && has_only_expired now rows rope.id)

gone_if : (kept lost due same : Bool) → once (cond kept lost due && same) ≡ cond kept 0 (once (due && same)) + once ((kept && lost) && same)
gone_if true true due same = omega arith
gone_if true false due same = omega arith
gone_if false lost true true = refl
gone_if false lost true false = refl
gone_if false lost false true = refl
gone_if false lost false false = refl

copies_index : (n now : ℕ) (kept : Bool) (due : Due) (dues : List Due) → copies n (ids_by now (cond kept dues (put_in is_sooner due dues))) ≡ cond kept 0 (once (is_by now due && (due.id == n))) + copies n (ids_by now dues)
copies_index n now true due dues = omega arith
copies_index n now false due dues = copies_put n now is_sooner due dues

-- each rope that goes is due, or loses its last row
pub gone_split : (n now until : ℕ) (rows : List Row) (ropes : List Rope) → copies n (gone_ids now until rows ropes) ≡ copies n (ids_by now (index_of ropes)) + copies n (ids_that (loses (until == 0) now rows) ropes)
gone_split n now until rows [] = refl
gone_split n now until rows (rope ∷ ropes) =
    let rest = gone_split n now until rows ropes in
    let all = copies_if n (is_gone now until rows rope) rope (filter (is_gone now until rows) ropes) in
    let lost = copies_if n (loses (until == 0) now rows rope) rope (filter (loses (until == 0) now rows) ropes) in
    let due = copies_index n now rope.kept (due_of rope) (index_of ropes) in
    let one = gone_if rope.kept ((until == 0) && has_only_expired now rows rope.id) (nat_le (rope.idle + rope.wait) now) (rope.id == n) in
    omega (arith, rest, all, lost, due, one)

length_index : (now : ℕ) (kept : Bool) (due : Due) (dues : List Due) → length (ids_by now (cond kept dues (put_in is_sooner due dues))) ≡ cond kept 0 (once (is_by now due)) + length (ids_by now dues)
length_index now true due dues = omega arith
length_index now false due dues = length_put now is_sooner due dues

at_most : (kept lost due : Bool) → cond kept 0 (once due) ≤ once (cond kept lost due)
at_most true lost due = omega arith
at_most false lost due = omega arith

-- those that are due are some of those that go
pub due_some : (now until : ℕ) (rows : List Row) (ropes : List Rope) → length (ids_by now (index_of ropes)) ≤ length (gone_ids now until rows ropes)
due_some now until rows [] = omega arith
due_some now until rows (rope ∷ ropes) =
    let rest = due_some now until rows ropes in
    let all = length_if (is_gone now until rows rope) rope (filter (is_gone now until rows) ropes) in
    let due = length_index now rope.kept (due_of rope) (index_of ropes) in
    let one = at_most rope.kept ((until == 0) && has_only_expired now rows rope.id) (nat_le (rope.idle + rope.wait) now) in
    omega (arith, rest, all, due, one)

-- ---- ropes that a row keeps

none_of : (n : ℕ) (test : Rope → Bool) (ropes : List Rope) → rope_of ropes n ≡ None → copies n (ids_that test ropes) ≡ 0
none_of n test [] e = refl
none_of n test (rope ∷ ropes) e = split (rope.id == n)
    (λ same. let found = ap (λ b. cond b (Some rope) (rope_of ropes n)) same in cc)
    (λ other. let rest = none_of n test ropes (sym (ap (λ b. cond b (Some rope) (rope_of ropes n)) other) ∙ e) in
    let all = copies_if n (test rope) rope (filter test ropes) in
    let none = ap (λ b. once (test rope && b)) other ∙ and_none (test rope) in
    omega (arith, rest, all, none))

and_some : (b : Bool) → once (b && true) ≡ once b
and_some true = refl
and_some false = refl

-- a rope that is kept and passes a test of its number stands once
pub kept_once : (n : ℕ) (p : ℕ → Bool) (ropes : List Rope) → IsInOrder is_lower ropes → copies n (ids_that (λ rope. rope.kept && p rope.id) ropes) ≡ once (is_kept ropes n && p n)
kept_once n p [] order = refl
kept_once n p (rope ∷ ropes) order =
    let all = copies_if n (rope.kept && p rope.id) rope (filter (λ rope. rope.kept && p rope.id) ropes) in
    split (rope.id == n)
    (λ e. let same = eqb-true rope.id n e in
    let none = none_of n (λ rope. rope.kept && p rope.id) ropes (none_behind n rope ropes (omega (arith, same)) order.0) in
    let one = ap (λ b. once ((rope.kept && p rope.id) && b)) e ∙ and_some (rope.kept && p rope.id) ∙ ap (λ m. once (rope.kept && p m)) same in
    let here = ap (λ b. once (unwrap_or (option_map (λ (r : Rope). r.kept) (cond b (Some rope) (rope_of ropes n))) false && p n)) e in
    omega (arith, all, none, one, here))
    (λ e. let rest = kept_once n p ropes order.1 in
    let one = ap (λ b. once ((rope.kept && p rope.id) && b)) e ∙ and_none (rope.kept && p rope.id) in
    let here = ap (λ b. once (unwrap_or (option_map (λ (r : Rope). r.kept) (cond b (Some rope) (rope_of ropes n))) false && p n)) e in
    omega (arith, all, one, here, rest))

-- a rope that is kept has a row
pub kept_has : (n : ℕ) (rows : List Row) (ropes : List Rope) → Every (λ rope. rope.kept ≡ has_row rows rope.id) ropes → is_kept ropes n ≡ true → has_row rows n ≡ true
kept_has n rows [] all e = absurd (false≢true e)
kept_has n rows (rope ∷ ropes) all e = split (rope.id == n)
    (λ same. ap (has_row rows) (sym (eqb-true rope.id n same)) ∙ sym all.0 ∙ sym (ap (λ b. unwrap_or (option_map (λ (r : Rope). r.kept) (cond b (Some rope) (rope_of ropes n))) false) same) ∙ e)
    (λ other. kept_has n rows ropes all.1 (sym (ap (λ b. unwrap_or (option_map (λ (r : Rope). r.kept) (cond b (Some rope) (rope_of ropes n))) false) other) ∙ e))

drop_some : (kept some p : Bool) → (kept ≡ true → some ≡ true) → once (kept && (some && p)) ≡ once (kept && p)
drop_some true some p e = ap (λ b. once (b && p)) (e refl)
drop_some false some p e = refl

pub kept_some : (n : ℕ) (p : Bool) (rows : List Row) (ropes : List Rope) → Every (λ rope. rope.kept ≡ has_row rows rope.id) ropes → once (is_kept ropes n && (nat_lt 0 (rows_of n rows) && p)) ≡ once (is_kept ropes n && p)
kept_some n p rows ropes all = drop_some (is_kept ropes n) (nat_lt 0 (rows_of n rows)) p (λ e. sym (has_some rows n) ∙ kept_has n rows ropes all e)
