-- Ropes and rows that come, in the tests.
use Rattle.std.proofs.Common.{◌≡◌, ℕ, List, [], ◌∷◌, ◌++◌, map, Bool, true, false, ◌||◌, cond, ◌==◌, refl, sym, ◌∙◌, ap, subst, arith}
use Rattle.std.proofs.lemmas.Bool.{eqb-true, eq-eqb, eqb-false, ne_eqb}
use Rattle.std.proofs.lemmas.List.Folds.{list_any-append}
use Rattle.voice_model.specs.State.{has_row}
use Rattle.voice_model.specs.declared.calls.Row.{Row}
use Rattle.interest_table.specs.Table.{rows_of}
use Rattle.rope_table.specs.declared.ropes.Rope.{Rope}
use Rattle.rope_table.specs.Table.{held_back, is_lower, with_rope}
use Rattle.rope_table.proofs.InOrder.{split, every_put}
use Rattle.collector.specs.Due.{AreKept}

-- no row names a rope that has none
no_row : (rows : List Row) (id : ℕ) → rows_of id rows ≡ 0 → has_row rows id ≡ false
no_row [] id e = refl
no_row (row ∷ rows) id e = split (row.rope == id)
    (λ s. absurd (let one = ap {B = ℕ} (λ b. cond b 1 0) s in omega (arith, e, one)))
    (λ s. ap (λ b. b || has_row rows id) s ∙ no_row rows id (let one = ap {B = ℕ} (λ b. cond b 1 0) s in omega (arith, e, one)))

-- a rope comes that no row names
pub rope_comes : (rows : List Row) (rope : Rope) (ropes : List Rope) → rope.kept ≡ false → rows_of rope.id rows ≡ 0 → AreKept rows ropes → AreKept rows (with_rope rope ropes)
rope_comes rows rope ropes kept none all = every_put (λ r. r.kept ≡ has_row rows r.id) is_lower rope ropes (kept ∙ sym (no_row rows rope.id none)) all

or_true : (b : Bool) → (b || true) ≡ true
or_true true = refl
or_true false = refl

or_false : (b : Bool) → (b || false) ≡ b
or_false true = refl
or_false false = refl

has_push : (rows : List Row) (row : Row) (id : ℕ) → has_row (rows ++ row ∷ []) id ≡ (has_row rows id || ((row.rope == id) || false))
has_push rows row id = list_any-append (λ (r : Row). r.rope == id) rows (row ∷ [])

same_rope : (rope : Rope) (row : Row) (rows : List Row) → rope.kept ≡ has_row rows rope.id → (held_back row.rope true rope).kept ≡ has_row (rows ++ row ∷ []) (held_back row.rope true rope).id
same_rope rope row rows h = split (rope.id == row.rope)
    (λ e.
    subst (λ (r : Rope). r.kept ≡ has_row (rows ++ row ∷ []) r.id) (sym (ap (λ b. cond b (record rope { kept = true }) rope) e))
    (sym (has_push rows row rope.id ∙ ap (λ b. has_row rows rope.id || (b || false)) (eq-eqb row.rope rope.id (sym (eqb-true rope.id row.rope e))) ∙ or_true (has_row rows rope.id))))
    (λ e.
    subst (λ (r : Rope). r.kept ≡ has_row (rows ++ row ∷ []) r.id) (sym (ap (λ b. cond b (record rope { kept = true }) rope) e))
    (h ∙ sym (has_push rows row rope.id ∙ ap (λ b. has_row rows rope.id || (b || false)) (ne_eqb row.rope rope.id (λ s. eqb-false rope.id row.rope e (sym s))) ∙ or_false (has_row rows rope.id))))

-- a row comes, and its rope is kept
pub row_comes : (rows : List Row) (row : Row) (ropes : List Rope) → AreKept rows ropes → AreKept (rows ++ row ∷ []) (map (held_back row.rope true) ropes)
row_comes rows row [] all = tt
row_comes rows row (rope ∷ ropes) all = (same_rope rope row rows all.0, row_comes rows row ropes all.1)
