-- A row is put last.
use Rattle.std.proofs.Common.{◌≡◌, ℕ, ◌≤◌, ◌+◌, List, [], ◌∷◌, ◌++◌, map, length, ap, ap₂, ◌∙◌, refl, cond, Bool, true, false, ◌==◌, ◌&&◌, Option, Some, None, eq-eqb, arith}
use Rattle.std.proofs.lemmas.Cmp.{nat_list_eq_equiv}
use Rattle.voice_model.specs.State.{class_number, is_row, row_at}
use Rattle.voice_model.specs.Valid.{Once}
use Rattle.voice_model.specs.declared.calls.Row.{Row}
use Rattle.interest_table.specs.Table.{rows_of}
use Rattle.interest_table.specs.Inside.{row_in}
use Rattle.interest_table.proofs.Found.{is_that_row}

-- a rope has no more rows than there are
pub rows_of_most : (rope : ℕ) (rows : List Row) → rows_of rope rows ≤ length rows
rows_of_most rope [] = omega arith
rows_of_most rope (row ∷ rows) = let rest = rows_of_most rope rows in either (row.rope == rope) rest
  where
    either : (b : Bool) → rows_of rope rows ≤ length rows → cond b 1 0 + rows_of rope rows ≤ length (row ∷ rows)
    either true rest = omega (arith, rest)
    either false rest = omega (arith, rest)

pub rows_push : (es : List (ℕ × Row)) (s : ℕ) (row : Row) → map row_in (es ++ (s, row) ∷ []) ≡ map row_in es ++ row ∷ []
rows_push [] s row = refl
rows_push (e ∷ es) s row = ap (λ l. e.1 ∷ l) (rows_push es s row)

-- a row stands under its own class and key
pub own_row : (row : Row) → is_row row.class row.key row ≡ true
own_row row = ap₂ (λ a b. a && b) (eq-eqb (class_number row.class) (class_number row.class) refl) (nat_list_eq_equiv.refl row.key)

-- where no row has the name of the row put last, that row has no other's name
still_none : (c r : Row) (rows : List Row) → is_row r.class r.key c ≡ false → row_at rows c.class c.key ≡ None → row_at (rows ++ r ∷ []) c.class c.key ≡ None
still_none c r [] not_r h = by (is_row c.class c.key r) refl
  where
    by : (b : Bool) → is_row c.class c.key r ≡ b → cond b (Some r) None ≡ None
    by true is =
        let that = is_that_row c.class c.key r is in
        let same : is_row r.class r.key c ≡ true = ap₂ (λ x k. is_row x k c) that.0 that.1 ∙ own_row c in
        cc
    by false is = refl
still_none c r (row ∷ rows) not_r h = by (is_row c.class c.key row) h (λ rest. still_none c r rows not_r rest)
  where
    by : (b : Bool) → cond b (Some row) (row_at rows c.class c.key) ≡ None → (row_at rows c.class c.key ≡ None → row_at (rows ++ r ∷ []) c.class c.key ≡ None) → cond b (Some row) (row_at (rows ++ r ∷ []) c.class c.key) ≡ None
    by true e rest = cc
    by false e rest = rest e

no_name : (b : Bool) (row : Row) (o : Option Row) → cond b (Some row) o ≡ None → (b ≡ false) × (o ≡ None)
no_name true row o h = cc
no_name false row o h = (refl, h)

pub once_push : (rows : List Row) (r : Row) → Once rows → row_at rows r.class r.key ≡ None → Once (rows ++ r ∷ [])
once_push [] r once none = (refl, tt)
once_push (row ∷ rows) r once none =
    let parts = no_name (is_row r.class r.key row) row (row_at rows r.class r.key) none in
    (still_none row r rows parts.0 once.0, once_push rows r once.1 parts.1)

rows_of_push : (rope : ℕ) (rows : List Row) (r : Row) → rows_of rope (rows ++ r ∷ []) ≡ rows_of rope rows + cond (r.rope == rope) 1 0
rows_of_push rope [] r = omega arith
rows_of_push rope (row ∷ rows) r = let rest = rows_of_push rope rows r in omega (arith, rest)

pub length_push : {A : Type 0} (xs : List A) (x : A) → length (xs ++ x ∷ []) ≡ length xs + 1
length_push [] x = refl
length_push (y ∷ xs) x = let rest = length_push xs x in omega (arith, rest)

one_more : (b : Bool) (now was own : ℕ) → (b ≡ true → own ≡ was) → now ≡ cond b (own + 1) was → now ≡ was + cond b 1 0
one_more true now was own same e = let s = same refl in omega (arith, s, e)
one_more false now was own same e = omega (arith, e)
