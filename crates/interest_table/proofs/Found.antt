-- Rows are found by class and key.
use Rattle.std.proofs.Common.{◌≡◌, ℕ, List, [], ◌∷◌, ap, ap₂, ◌∙◌, sym, refl, cond, Bool, true, false, ◌==◌, Option, Some, None, ◌-◌, ◌+◌, arith}
use Rattle.std.proofs.lemmas.Bool.{eqb-true, and_parts}
use Rattle.std.specs.Prelude.{not, filter}
use Rattle.std.specs.Cmp.Lexicographic.{same_text}
use Rattle.voice_model.specs.State.{class_number, is_row, row_at}
use Rattle.voice_model.specs.declared.calls.Row.{Row}
use Rattle.voice_model.specs.declared.calls.Class.{Class}
use Rattle.voice_model.specs.declared.calls.Class.TheVariants.{Held, Until, Listed}
use Rattle.std.specs.Prelude.{unwrap_or, nat_eq, is_ok, OnOk, Result, Ok, Err}
use Rattle.indexmap.specs.IndexMap as index
use Rattle.voice_model.specs.Valid.{Once}
use Rattle.interest_table.specs.Table.{rows_of}
use Rattle.interest_table.specs.Inside.{rows_counted}

pub both_ways : (a b : Bool) → (a ≡ true → b ≡ true) → (b ≡ true → a ≡ true) → a ≡ b
both_ways true b f g = sym (f refl)
both_ways false true f g = g refl
both_ways false false f g = refl

-- ---- a row goes

same_class : (a b : Class) → (class_number a == class_number b) ≡ true → a ≡ b
same_class Held Held h = refl
same_class Held Until h = cc
same_class Held Listed h = cc
same_class Until Held h = cc
same_class Until Until h = refl
same_class Until Listed h = cc
same_class Listed Held h = cc
same_class Listed Until h = cc
same_class Listed Listed h = refl

-- the rows that do not stand under a class and key
abbrev pub others : Class → List ℕ → List Row → List Row
others class key rows = filter (λ row. not (is_row class key row)) rows

stay : (class : Class) (key : List ℕ) (row : Row) (rows : List Row) (b : Bool) → (row_at rows class key ≡ None → others class key rows ≡ rows) → cond b (Some row) (row_at rows class key) ≡ None → cond (not b) (row ∷ others class key rows) (others class key rows) ≡ row ∷ rows
stay class key row rows true rest e = cc
stay class key row rows false rest e = ap (λ l. row ∷ l) (rest e)

-- where no row stands there, all stay
pub all_stay : (class : Class) (key : List ℕ) (rows : List Row) → row_at rows class key ≡ None → others class key rows ≡ rows
all_stay class key [] h = refl
all_stay class key (row ∷ rows) h = stay class key row rows (is_row class key row) (all_stay class key rows) h

-- a row of this class and key has them
pub is_that_row : (class : Class) (key : List ℕ) (row : Row) → is_row class key row ≡ true → (row.class ≡ class) × (row.key ≡ key)
is_that_row class key row h = let parts = and_parts _ _ h in (same_class row.class class parts.0, same_text row.key key (sym parts.1))

-- ---- how many rows a rope has

pub on_ok_true : {T E P : Type 0} (r : Result T E) → is_ok r ≡ true → OnOk r P → P
on_ok_true (Ok x) e p = p
on_ok_true (Err x) e p = cc

one_less : (b : Bool) (now was rope other count : ℕ) → (b ≡ true → was ≡ count) → now ≡ cond b (count - 1) was → now ≡ cond b (was - 1) was
one_less true now was rope other count same e = e ∙ ap (λ n. n - 1) (sym (same refl))
one_less false now was rope other count same e = e

pub or_none : (b : Bool) (w : ℕ) (o : Option ℕ) → unwrap_or (cond b (Some w) o) 0 ≡ cond b w (unwrap_or o 0)
or_none true w o = refl
or_none false w o = refl

pub one_row_less : {H : Type 0} (old new : index.IndexMap ℕ ℕ H) (rope count other : ℕ) → index.get nat_eq old rope ≡ Some count → index.get nat_eq new other ≡ cond (nat_eq rope other) (Some (count - 1)) (index.get nat_eq old other) → rows_counted new other ≡ cond (rope == other) (rows_counted old other - 1) (rows_counted old other)
one_row_less old new rope count other was e =
    one_less (rope == other) (rows_counted new other) (rows_counted old other) rope other count
    (λ t. let same : rope ≡ other = eqb-true rope other t in ap (λ k. unwrap_or (index.get nat_eq old k) 0) (sym same) ∙ ap (λ o. unwrap_or o 0) was)
    (ap (λ o. unwrap_or o 0) e ∙ or_none (rope == other) (count - 1) (index.get nat_eq old other))

one_of_them : (class : Class) (key : List ℕ) (rope : ℕ) (r row : Row) (rows : List Row) (b : Bool) → is_row class key r ≡ b → cond b (Some r) (row_at rows class key) ≡ Some row → row_at rows r.class r.key ≡ None → (row_at rows class key ≡ Some row → rows_of rope rows ≡ cond (row.rope == rope) 1 0 + rows_of rope (others class key rows)) → cond (r.rope == rope) 1 0 + rows_of rope rows ≡ cond (row.rope == rope) 1 0 + rows_of rope (cond (not b) (r ∷ others class key rows) (others class key rows))
one_of_them class key rope r row rows true is at none rest =
    let that = is_that_row class key r is in
    let same : r ≡ row = cc in
    ap₂ (λ x ys. cond (x == rope) 1 0 + rows_of rope ys) (ap (λ (x : Row). x.rope) same) (sym (all_stay class key rows (sym (ap₂ (λ c k. row_at rows c k) that.0 that.1) ∙ none)))
one_of_them class key rope r row rows false is at none rest =
    let more = rest at in
    omega (arith, more)

-- a row that goes is one row less of its rope
pub rows_of-others : (class : Class) (key : List ℕ) (rope : ℕ) (row : Row) (rows : List Row) → row_at rows class key ≡ Some row → Once rows → rows_of rope rows ≡ cond (row.rope == rope) 1 0 + rows_of rope (others class key rows)
rows_of-others class key rope row [] h once = cc
rows_of-others class key rope row (r ∷ rows) h once = one_of_them class key rope r row rows (is_row class key r) refl h once.0 (λ at. rows_of-others class key rope row rows at once.1)

none_either : (class : Class) (key : List ℕ) (c : Class) (k : List ℕ) (r : Row) (rows : List Row) (a b : Bool) → is_row c k r ≡ a → cond a (Some r) (row_at rows c k) ≡ None → (row_at rows c k ≡ None → row_at (others class key rows) c k ≡ None) → row_at (cond (not b) (r ∷ others class key rows) (others class key rows)) c k ≡ None
none_either class key c k r rows true b is at rest = cc
none_either class key c k r rows false true is at rest = rest at
none_either class key c k r rows false false is at rest = ap (λ x. cond x (Some r) (row_at (others class key rows) c k)) is ∙ rest at

-- where no row stands, none does once others went
none_after : (class : Class) (key : List ℕ) (c : Class) (k : List ℕ) (rows : List Row) → row_at rows c k ≡ None → row_at (others class key rows) c k ≡ None
none_after class key c k [] h = refl
none_after class key c k (r ∷ rows) h = none_either class key c k r rows (is_row c k r) (is_row class key r) refl h (none_after class key c k rows)

once_either : (class : Class) (key : List ℕ) (r : Row) (rows : List Row) (b : Bool) → row_at (others class key rows) r.class r.key ≡ None → Once (others class key rows) → Once (cond (not b) (r ∷ others class key rows) (others class key rows))
once_either class key r rows true none rest = rest
once_either class key r rows false none rest = (none, rest)

pub once_after : (class : Class) (key : List ℕ) (rows : List Row) → Once rows → Once (others class key rows)
once_after class key [] h = tt
once_after class key (r ∷ rows) h = once_either class key r rows (is_row class key r) (none_after class key r.class r.key rows h.0) (once_after class key rows h.1)
