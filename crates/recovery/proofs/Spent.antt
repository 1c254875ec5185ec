-- The rows of ropes that are expired, and whether a rope has others.
use Rattle.std.proofs.Common.{◌≡◌, ℕ, zero, suc, ◌+◌, ◌≤◌, ◌<◌, List, [], ◌∷◌, length, get_or, drop, map, filter, Bool, true, false, not, ◌==◌, nat_le, nat_lt, cond, Option, Some, refl, sym, ◌∙◌, ap, add-one, arith}
use Rattle.std.specs.Prelude.{unwrap_or}
use Rattle.std.proofs.lemmas.Bool.{le-leb, lt-leb, ltb-true, ltb-false}
use Rattle.std.proofs.lemmas.List.{length-map, drop_all}
use Rattle.voice_model.specs.declared.calls.Row.{Row}
use Rattle.voice_model.specs.State.{has_row}
use Rattle.voice_model.specs.Changes.{is_expired}
use Rattle.interest_table.specs.Table.{rows_of}
use Rattle.recovery.proofs.Showing.{has_some, has_none}

-- the rows of a rope are those that pass a test and those that do not
rows_split : (test : Row → Bool) (id : ℕ) (rows : List Row) → rows_of id rows ≡ rows_of id (filter test rows) + rows_of id (filter (λ row. not (test row)) rows)
rows_split test id [] = refl
rows_split test id (row ∷ rows) = by_test (test row) (rows_split test id rows)
  where
    by_test : (b : Bool) → rows_of id rows ≡ rows_of id (filter test rows) + rows_of id (filter (λ row. not (test row)) rows)
        → rows_of id (row ∷ rows) ≡ rows_of id (cond b (row ∷ filter test rows) (filter test rows)) + rows_of id (cond (not b) (row ∷ filter (λ row. not (test row)) rows) (filter (λ row. not (test row)) rows))
    by_test true e = omega (arith, e)
    by_test false e = omega (arith, e)

-- ---- one row after another

next_row : (id k x : ℕ) (rows : List Row) → k < length rows → x ≡ get_or (map (λ (row : Row). row.rope) rows) k x → rows_of id (drop k rows) ≡ cond (x == id) 1 0 + rows_of id (drop (suc k) rows)
next_row id k x [] within at = absurd (omega arith)
next_row id zero x (row ∷ rows) within at = ap (λ n. cond (n == id) 1 0 + rows_of id rows) (sym at)
next_row id (suc k) x (row ∷ rows) within at = next_row id k x rows (omega arith) at

-- one more was counted
pub noted_more : (id k x n m all : ℕ) (rows : List Row) (xs : List ℕ) → k < length xs → x ≡ get_or xs k x → xs ≡ map (λ (row : Row). row.rope) rows → n + rows_of id (drop k rows) ≡ all → m ≡ n + cond (x == id) 1 0 → m + rows_of id (drop (k + 1) rows) ≡ all
noted_more id k x n m all rows xs within at are was is =
    let long = ap length are in
    let same = length-map rows (λ (row : Row). row.rope) in
    let next = next_row id k x rows (omega (arith, within, long, same)) (at ∙ ap (λ l. get_or l k x) are) in
    let rest = ap (λ n. rows_of id (drop n rows)) (add-one k) in
    omega (arith, next, rest, was, is)

-- all were counted
pub noted_all : (id k n all : ℕ) (rows : List Row) (xs : List ℕ) → length xs ≤ k → xs ≡ map (λ (row : Row). row.rope) rows → n + rows_of id (drop k rows) ≡ all → n ≡ all
noted_all id k n all rows xs beyond are was =
    let long = ap length are in
    let same = length-map rows (λ (row : Row). row.rope) in
    let none = ap (rows_of id) (drop_all k rows (omega (arith, beyond, long, same))) in
    omega (arith, was, none)

-- a count that is put under a rope
pub put_one : (b : Bool) (after : ℕ) (o : Option ℕ) → (b ≡ true → after ≡ unwrap_or o 0 + 1) → unwrap_or (cond b (Some after) o) 0 ≡ unwrap_or o 0 + cond b 1 0
put_one true after o e = e refl
put_one false after o e = omega arith

-- ---- whether a rope has others

-- a rope has no more rows than are expired exactly where no other names it
pub all_spent : (now id n : ℕ) (rows : List Row) → n ≡ rows_of id (filter (is_expired now) rows) → nat_le (rows_of id rows) n ≡ not (has_row (filter (λ row. not (is_expired now row)) rows) id)
all_spent now id n rows e = by_test (nat_lt 0 left) refl
  where
    others : List Row
    others = filter (λ (row : Row). not (is_expired now row)) rows

    left : ℕ
    left = rows_of id others

    parts : rows_of id rows ≡ rows_of id (filter (is_expired now) rows) + left
    parts = rows_split (is_expired now) id rows

    by_test : (b : Bool) → nat_lt 0 left ≡ b → nat_le (rows_of id rows) n ≡ not (has_row others id)
    by_test true t =
        let some = ltb-true 0 left t in
        lt-leb (rows_of id rows) n (omega (arith, e, parts, some)) ∙ sym (ap not (has_some left id others refl some))
    by_test false t =
        let none = ltb-false 0 left t in
        le-leb (rows_of id rows) n (omega (arith, e, parts, none)) ∙ sym (ap not (has_none left id others refl none))
