-- The live ropes as the table of ropes shows them.
use Rattle.std.proofs.Common.{◌≡◌, ℕ, ◌+◌, ◌≤◌, ◌==◌, Bool, true, false, cond, not, ◌&&◌, ◌||◌, nat_lt, List, [], ◌∷◌, ◌++◌, map, Option, Some, None, refl, sym, ◌∙◌, ap, subst, arith}
use Rattle.std.specs.Prelude.{option_map, is_some}
use Rattle.std.proofs.lemmas.Bool.{eqb-true, eq-eqb}
use Rattle.voice_units.specs.declared.shapes.Graces.{Graces}
use Rattle.voice_units.specs.Spots.{Spot, pieces_of, nowhere}
use Rattle.voice_units.specs.Blocks.{BlockPair, has_pair, pairs_at}
use Rattle.voice_units.proofs.PiecesOfRopes.{spots_of-runs}
use Rattle.voice_model.specs.State.{Live, rope_at, is_live, has_row, settled, among}
use Rattle.voice_model.specs.Changes.{wait_of}
use Rattle.voice_model.specs.Valid.{Every, Rising}
use Rattle.voice_model.specs.declared.calls.Row.{Row}
use Rattle.interest_table.specs.Table.{rows_of}
use Rattle.voice_model.proofs.KeptByChanges.{same_bool, every-imply}
use Rattle.voice_model.proofs.PlacesKept.{has_pair-append, all_samples}
use Rattle.rope_table.specs.declared.ropes.Rope.{Rope}
use Rattle.rope_table.specs.Table.{rope_of, with_rope, uses_in, pieces_in, held_back}
use Rattle.recovery.specs.Shown.{shown_rope, RowsGone, left_idle}

pub not_equal : (a b : ℕ) → ¬ (a ≡ b) → (a == b) ≡ false
not_equal a b h = test (a == b) refl
  where
    test : (t : Bool) → (a == b) ≡ t → t ≡ false
    test true e = absurd (h (eqb-true a b e))
    test false e = refl

pub swapped : (a b : ℕ) → (a == b) ≡ (b == a)
swapped a b = same_bool (a == b) (b == a) (λ e. eq-eqb b a (sym (eqb-true a b e))) (λ e. eq-eqb a b (sym (eqb-true b a e)))

-- ---- the rope of a number

found_here : (f : Live Spot → Rope) (b : Bool) (x : Live Spot) (o : Option Rope) (q : Option (Live Spot)) → o ≡ option_map f q → cond b (Some (f x)) o ≡ option_map f (cond b (Some x) q)
found_here f true x o q e = refl
found_here f false x o q e = e

pub rope_of-shown : (g : Graces) (rows : List Row) (ropes : List (Live Spot)) (id : ℕ) → rope_of (map (shown_rope g rows) ropes) id ≡ option_map (shown_rope g rows) (rope_at ropes id)
rope_of-shown g rows [] id = refl
rope_of-shown g rows (rope ∷ ropes) id = found_here (shown_rope g rows) (rope.id == id) rope (rope_of (map (shown_rope g rows) ropes) id) (rope_at ropes id) (rope_of-shown g rows ropes id)

pub some_mapped : {A B : Type 0} (f : A → B) (o : Option A) → is_some (option_map f o) ≡ is_some o
some_mapped f None = refl
some_mapped f (Some x) = refl

-- ---- the uses of a block

more_uses : (a b : Bool) (n : ℕ) → nat_lt 0 n ≡ b → nat_lt 0 (cond a 1 0 + n) ≡ (a || b)
more_uses true b n e = some n
  where
    some : (n : ℕ) → nat_lt 0 (1 + n) ≡ true
    some n = grind arith
more_uses false b n e = subst (λ m. nat_lt 0 m ≡ b) (let same : n ≡ 0 + n = omega arith in same) e

pub uses_shown : (g : Graces) (rows : List Row) (block : ℕ) (ropes : List (Live Spot)) (pair : BlockPair) → nat_lt 0 (uses_in block (pieces_in (map (shown_rope g rows) ropes)) pair) ≡ has_pair (pairs_at block (all_samples ropes)) pair
uses_shown g rows block [] pair = refl
uses_shown g rows block (rope ∷ ropes) pair =
    ap (λ ss. nat_lt 0 (cond (has_pair (pairs_at block ss) pair) 1 0 + uses_in block (pieces_in (map (shown_rope g rows) ropes)) pair)) (spots_of-runs nowhere rope.samples)
    ∙ more_uses (has_pair (pairs_at block rope.samples) pair) (has_pair (pairs_at block (all_samples ropes)) pair) (uses_in block (pieces_in (map (shown_rope g rows) ropes)) pair) (uses_shown g rows block ropes pair)
    ∙ sym (has_pair-append block rope.samples (all_samples ropes) pair)

-- ---- a rope comes

pub rising_end : (low : ℕ) (ropes : List (Live Spot)) (next : ℕ) → Rising low ropes next → low ≤ next
rising_end low [] next h = h
rising_end low (rope ∷ ropes) next h = let first = h.0 in let rest = rising_end (rope.id + 1) ropes next h.1 in omega (arith, first, rest)

pub not_live : (low : ℕ) (ropes : List (Live Spot)) (next id : ℕ) → Rising low ropes next → next ≤ id → rope_at ropes id ≡ None
not_live low [] next id h e = refl
not_live low (rope ∷ ropes) next id h e =
    let end = rising_end (rope.id + 1) ropes next h.1 in
    ap (λ b. cond b (Some rope) (rope_at ropes id)) (not_equal rope.id id (λ same. omega (arith, same, end, e))) ∙ not_live (rope.id + 1) ropes next id h.1 e

not_lower : (a b : ℕ) → b ≤ a → nat_lt a b ≡ false
not_lower a b h = grind (arith, h)

pub put_last : (g : Graces) (rows : List Row) (low : ℕ) (ropes : List (Live Spot)) (next : ℕ) (rope : Live Spot) → Rising low ropes next → next ≤ rope.id
    → with_rope (shown_rope g rows rope) (map (shown_rope g rows) ropes) ≡ map (shown_rope g rows) (ropes ++ rope ∷ [])
put_last g rows low [] next rope h e = refl
put_last g rows low (first ∷ ropes) next rope h e =
    let end = rising_end (first.id + 1) ropes next h.1 in
    ap (λ b. cond b (shown_rope g rows rope ∷ shown_rope g rows first ∷ map (shown_rope g rows) ropes) (shown_rope g rows first ∷ with_rope (shown_rope g rows rope) (map (shown_rope g rows) ropes))) (not_lower rope.id first.id (omega (arith, end, e)))
    ∙ ap (λ l. shown_rope g rows first ∷ l) (put_last g rows (first.id + 1) ropes next rope h.1 e)

-- a rope that is not live has no row
pub no_row_of : (ropes : List (Live Spot)) (rows : List Row) (id : ℕ) → Every (λ row. is_live ropes row.rope ≡ true) rows → rope_at ropes id ≡ None → has_row rows id ≡ false
no_row_of ropes [] id h e = refl
no_row_of ropes (row ∷ rows) id h e =
    ap (λ b. b || has_row rows id) (not_equal row.rope id (λ same. let live : is_live ropes id ≡ true = ap (is_live ropes) (sym same) ∙ h.0 in let bad : true ≡ false = sym live ∙ ap is_some e in cc))
    ∙ no_row_of ropes rows id h.1 e

-- ---- a row comes

row_last : (rows : List Row) (row : Row) (id : ℕ) → has_row (rows ++ row ∷ []) id ≡ (has_row rows id || (row.rope == id))
row_last [] row id = either (row.rope == id)
  where
    either : (b : Bool) → (b || false) ≡ b
    either true = refl
    either false = refl
row_last (first ∷ rows) row id = joined (first.rope == id) (has_row rows id) (row.rope == id) (has_row (rows ++ row ∷ []) id) (row_last rows row id)
  where
    joined : (a b c d : Bool) → d ≡ (b || c) → (a || d) ≡ ((a || b) || c)
    joined true b c d e = refl
    joined false b c d e = e

-- a live rope as the table keeps it, kept or not
abbrev pub shown_as : Graces → Bool → Live Spot → Rope
shown_as graces kept rope = record { id = rope.id; pieces = pieces_of rope.samples; idle = rope.idle; last = rope.last; wait = wait_of graces rope.last; kept = kept }

pub cons_same : {A : Type 0} {x y : A} {xs ys : List A} → x ≡ y → xs ≡ ys → x ∷ xs ≡ y ∷ ys
cons_same e h = cc

pub held_shown : (g : Graces) (rows : List Row) (row : Row) (ropes : List (Live Spot)) → map (held_back row.rope true) (map (shown_rope g rows) ropes) ≡ map (shown_rope g (rows ++ row ∷ [])) ropes
held_shown g rows row [] = refl
held_shown g rows row (rope ∷ ropes) = cons_same (one (rope.id == row.rope) refl) (held_shown g rows row ropes)
  where
    or_true : (b : Bool) → (b || true) ≡ true
    or_true true = refl
    or_true false = refl

    or_false : (b : Bool) → (b || false) ≡ b
    or_false true = refl
    or_false false = refl

    kept_now : (b : Bool) → (rope.id == row.rope) ≡ b → has_row (rows ++ row ∷ []) rope.id ≡ (has_row rows rope.id || b)
    kept_now b e = row_last rows row rope.id ∙ ap (λ x. has_row rows rope.id || x) (swapped row.rope rope.id ∙ e)

    one : (b : Bool) → (rope.id == row.rope) ≡ b → held_back row.rope true (shown_rope g rows rope) ≡ shown_rope g (rows ++ row ∷ []) rope
    one true e = ap (λ b. cond b (shown_as g true rope) (shown_rope g rows rope)) e ∙ ap (λ k. shown_as g k rope) (sym (kept_now true e ∙ or_true (has_row rows rope.id)))
    one false e = ap (λ b. cond b (shown_as g true rope) (shown_rope g rows rope)) e ∙ ap (λ k. shown_as g k rope) (sym (kept_now false e ∙ or_false (has_row rows rope.id)))

-- ---- rows go

pub settled_by : (form now class : ℕ) (before after : List Row) (x : Live Spot) (b c : Bool) → has_row before x.id ≡ b → has_row after x.id ≡ c
    → settled form now class before after x ≡ cond (b && not c) (record x { idle = now; last = cond (form == 2) class x.last }) x
settled_by form now class before after x b c e f =
    ap (λ y. cond (y && not (has_row after x.id)) (record x { idle = now; last = cond (form == 2) class x.last }) x) e
    ∙ ap (λ y. cond (b && not y) (record x { idle = now; last = cond (form == 2) class x.last }) x) f

-- a rope whose having a row stays is not settled
pub not_settled : (form now class : ℕ) (before after : List Row) (x : Live Spot) (b : Bool) → has_row before x.id ≡ b → has_row after x.id ≡ b → settled form now class before after x ≡ x
not_settled form now class before after x true e f = settled_by form now class before after x true true e f
not_settled form now class before after x false e f = settled_by form now class before after x false false e f

stays_shown : (g : Graces) (form now class : ℕ) (before after : List Row) (x : Live Spot) → has_row after x.id ≡ has_row before x.id → shown_rope g before x ≡ shown_rope g after (settled form now class before after x)
stays_shown g form now class before after x same = ap (λ k. shown_as g k x) (sym same) ∙ ap (shown_rope g after) (sym (not_settled form now class before after x (has_row before x.id) refl same))

-- no rope loses its last row
pub unsettled : (g : Graces) (form now class : ℕ) (before after : List Row) → ((id : ℕ) → has_row after id ≡ has_row before id) → (ropes : List (Live Spot))
    → map (shown_rope g before) ropes ≡ map (shown_rope g after) (map (settled form now class before after) ropes)
unsettled g form now class before after same [] = refl
unsettled g form now class before after same (rope ∷ ropes) = cons_same (stays_shown g form now class before after rope (same rope.id)) (unsettled g form now class before after same ropes)

-- ropes that lose their last row
pub all_settled : (g : Graces) (form now class : ℕ) (before after : List Row) (ids : List ℕ) → RowsGone ids before after → (ropes : List (Live Spot)) → Every (λ rope. cond (form == 2) class rope.last ≡ cond (form == 2) class 0) ropes
    → map (left_idle form g now class after ids) (map (shown_rope g before) ropes) ≡ map (shown_rope g after) (map (settled form now class before after) ropes)
all_settled g form now class before after ids gone [] lasts = refl
all_settled g form now class before after ids gone (rope ∷ ropes) lasts =
    cons_same (here (among ids rope.id) (has_row after rope.id) refl refl) (all_settled g form now class before after ids gone ropes lasts.1)
  where
    moved : Live Spot
    moved = record rope { idle = now; last = cond (form == 2) class rope.last }

    shown : Rope
    shown = shown_rope g before rope

    idle : ℕ → Rope
    idle last = record shown { idle = now; last = last; wait = wait_of g last; kept = false }

    had : (b c : Bool) → among ids rope.id ≡ b → has_row after rope.id ≡ c → has_row before rope.id ≡ (b || c)
    had b c e f = gone rope.id ∙ ap (λ b. b || has_row after rope.id) e ∙ ap (λ c. b || c) f

    by_both : (b c : Bool) → among ids rope.id ≡ b → has_row after rope.id ≡ c → left_idle form g now class after ids shown ≡ cond (b && not c) (idle (cond (form == 2) class 0)) shown
    by_both b c e f = ap (λ b. cond (b && not (has_row after rope.id)) (idle (cond (form == 2) class 0)) shown) e ∙ ap (λ c. cond (b && not c) (idle (cond (form == 2) class 0)) shown) f

    here : (b c : Bool) → among ids rope.id ≡ b → has_row after rope.id ≡ c → left_idle form g now class after ids shown ≡ shown_rope g after (settled form now class before after rope)
    here true false e f =
        by_both true false e f ∙ ap idle (sym lasts.0) ∙ ap (λ k. shown_as g k moved) (sym f)
        ∙ ap (shown_rope g after) (sym (settled_by form now class before after rope true false (had true false e f) f))
    here true true e f = by_both true true e f ∙ stays_shown g form now class before after rope (f ∙ sym (had true true e f))
    here false true e f = by_both false true e f ∙ stays_shown g form now class before after rope (f ∙ sym (had false true e f))
    here false false e f = by_both false false e f ∙ stays_shown g form now class before after rope (f ∙ sym (had false false e f))

-- the number of the class in form 2, none in form 1
pub last_for : (form class last : ℕ) (ropes : List (Live Spot)) → ((form == 2) ≡ false → Every (λ rope. rope.last ≡ 0) ropes) → last ≡ cond (form == 2) class 0 → Every (λ rope. cond (form == 2) class rope.last ≡ last) ropes
last_for form class last ropes plain is = by_form (form == 2) plain is
  where
    wide : (ropes : List (Live Spot)) → last ≡ class → Every (λ rope. class ≡ last) ropes
    wide [] e = tt
    wide (rope ∷ ropes) e = (sym e, wide ropes e)

    by_form : (b : Bool) → (b ≡ false → Every (λ rope. rope.last ≡ 0) ropes) → last ≡ cond b class 0 → Every (λ rope. cond b class rope.last ≡ last) ropes
    by_form true plain e = wide ropes e
    by_form false plain e = every-imply (λ (rope : Live Spot). rope.last ≡ 0) (λ (rope : Live Spot). rope.last ≡ last) (λ rope h. h ∙ sym e) ropes (plain refl)

-- how many rows a rope has, and whether it has one
pub some_rows : (rows : List Row) (id : ℕ) → nat_lt 0 (rows_of id rows) ≡ has_row rows id
some_rows [] id = refl
some_rows (row ∷ rows) id = more_uses (row.rope == id) (has_row rows id) (rows_of id rows) (some_rows rows id)
