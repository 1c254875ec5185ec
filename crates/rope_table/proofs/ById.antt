-- Ropes in rising number, and the order in which they are due.
use Rattle.std.proofs.Common.{◌≡◌, ℕ, suc, ◌<◌, ◌≤◌, List, [], ◌∷◌, map, Bool, true, false, not, ◌==◌, cond, nat_lt, Option, Some, None, refl, sym, ◌∙◌, ap, ap₂, arith}
use Rattle.std.proofs.lemmas.Bool.{ltb-true, ltb-false, leb-true, lt-ltb, le-ltb, le-leb, lt-leb, ne_eqb}
use Rattle.std.proofs.lemmas.Bool.Decides.{nat_tests}
use Rattle.rope_table.specs.declared.dues.Due.{Due}
use Rattle.std.specs.Prelude.{slice_get, option_map}
use Rattle.rope_table.specs.declared.ropes.Rope.{Rope}
use Rattle.rope_table.specs.Table.{is_sooner, is_lower, Every, IsInOrder, rope_of, number_above, without_rope}
use Rattle.rope_table.specs.Inside.{is_due_before, lies_below, is_within, place_of}
use Rattle.rope_table.proofs.InOrder.{split}

pub sooner_through : (x y z : Due) → is_sooner x y ≡ true → is_sooner y z ≡ true → is_sooner x z ≡ true
sooner_through x y z h k = grind (arith, nat_tests)

pub sooner_self : (x : Due) → is_sooner x x ≡ false
sooner_self x = grind (arith, nat_tests)

pub sooner_apart : (x y : Due) → (x.id ≡ y.id → ⊥) → is_sooner y x ≡ not (is_sooner x y)
sooner_apart x y h = grind (arith, nat_tests)

pub due_down : (at id : ℕ) (x y : Due) → is_sooner x y ≡ true → is_due_before at id y ≡ true → is_due_before at id x ≡ true
due_down at id x y h k = grind (arith, nat_tests)

pub before_it : (at id : ℕ) (x y : Due) → x.at ≡ at → x.id ≡ id → is_sooner y x ≡ true → is_due_before at id y ≡ true
before_it at id x y when is h = ap₂ (λ m n. is_due_before m n y) (sym when) (sym is) ∙ h

pub not_behind_it : (at id : ℕ) (x y : Due) → x.at ≡ at → x.id ≡ id → is_sooner x y ≡ true → is_due_before at id y ≡ false
not_behind_it at id x y when is h = ap₂ (λ m n. is_due_before m n y) (sym when) (sym is) ∙ grind (arith, nat_tests)

-- ---- ropes

pub lower_through : (x y z : Rope) → is_lower x y ≡ true → is_lower y z ≡ true → is_lower x z ≡ true
lower_through x y z h k = lt-ltb x.id z.id (omega (arith, ltb-true x.id y.id h, ltb-true y.id z.id k))

pub lower_apart : (x y : Rope) → (x.id ≡ y.id → ⊥) → is_lower y x ≡ not (is_lower x y)
lower_apart x y h = split (nat_lt x.id y.id)
    (λ e. le-ltb y.id x.id (omega (arith, ltb-true x.id y.id e)) ∙ ap not (sym e))
    (λ e. lt-ltb y.id x.id (omega (arith, ltb-false x.id y.id e, h)) ∙ ap not (sym e))

pub below_down : (id : ℕ) (x y : Rope) → is_lower x y ≡ true → lies_below id y ≡ true → lies_below id x ≡ true
below_down id x y h k = lt-ltb x.id id (omega (arith, ltb-true x.id y.id h, ltb-true y.id id k))

pub within_down : (id : ℕ) (x y : Rope) → is_lower x y ≡ true → is_within id y ≡ true → is_within id x ≡ true
within_down id x y h k = le-leb x.id id (omega (arith, ltb-true x.id y.id h, leb-true y.id id k))

pub not_here : (id : ℕ) (rope : Rope) (ropes : List Rope) → (rope.id ≡ id → ⊥) → rope_of (rope ∷ ropes) id ≡ rope_of ropes id
not_here id rope ropes h = ap (λ b. cond b (Some rope) (rope_of ropes id)) (ne_eqb rope.id id h)

-- a number that is no greater than one in front is not behind it
pub none_behind : (id : ℕ) (rope : Rope) (ropes : List Rope) → id ≤ rope.id → Every (λ other. is_lower rope other ≡ true) ropes → rope_of ropes id ≡ None
none_behind id rope [] le all = refl
none_behind id rope (other ∷ ropes) le all = not_here id other ropes (λ e. omega (arith, e, le, ltb-true rope.id other.id all.0)) ∙ none_behind id rope ropes le all.1

-- the rope that is found, if it has the number
abbrev pub if_id : ℕ → Option Rope → Option Rope
if_id id None = None
if_id id (Some rope) = cond (rope.id == id) (Some rope) None

pub place_more : (id : ℕ) (rope : Rope) (ropes : List Rope) → rope.id < id → place_of (lies_below id) (rope ∷ ropes) ≡ suc (place_of (lies_below id) ropes)
place_more id rope ropes h = ap (λ b. cond b (suc (place_of (lies_below id) ropes)) 0) (lt-ltb rope.id id h)

pub place_none : (id : ℕ) (rope : Rope) (ropes : List Rope) → id ≤ rope.id → place_of (lies_below id) (rope ∷ ropes) ≡ 0
place_none id rope ropes h = ap (λ b. cond b (suc (place_of (lies_below id) ropes)) 0) (le-ltb rope.id id h)

-- the rope of a number stands at its place
pub rope_at_place : (id : ℕ) (ropes : List Rope) → IsInOrder is_lower ropes → rope_of ropes id ≡ if_id id (slice_get ropes (place_of (lies_below id) ropes))
rope_at_place id [] order = refl
rope_at_place id (rope ∷ ropes) order =
    split (nat_lt rope.id id)
    (λ e. let h = ltb-true rope.id id e in
    not_here id rope ropes (λ same. omega (arith, same, h)) ∙ rope_at_place id ropes order.1
    ∙ sym (ap (λ i. if_id id (slice_get (rope ∷ ropes) i)) (place_more id rope ropes h)))
    (λ e. let h = ltb-false rope.id id e in
    ap (λ o. cond (rope.id == id) (Some rope) o) (none_behind id rope ropes h order.0)
    ∙ sym (ap (λ i. if_id id (slice_get (rope ∷ ropes) i)) (place_none id rope ropes h)))

-- the first number above one stands behind those up to it
pub above_at_place : (id : ℕ) (ropes : List Rope) → number_above ropes id ≡ option_map (λ (rope : Rope). rope.id) (slice_get ropes (place_of (is_within id) ropes))
above_at_place id [] = refl
above_at_place id (rope ∷ ropes) =
    split (nat_lt id rope.id)
    (λ e. let h = ltb-true id rope.id e in
    ap (λ b. cond b (Some rope.id) (number_above ropes id)) e
    ∙ sym (ap (λ b. option_map (λ (rope : Rope). rope.id) (slice_get (rope ∷ ropes) (cond b (suc (place_of (is_within id) ropes)) 0))) (lt-leb rope.id id h)))
    (λ e. let h = ltb-false id rope.id e in
    ap (λ b. cond b (Some rope.id) (number_above ropes id)) e
    ∙ above_at_place id ropes
    ∙ sym (ap (λ b. option_map (λ (rope : Rope). rope.id) (slice_get (rope ∷ ropes) (cond b (suc (place_of (is_within id) ropes)) 0))) (le-leb rope.id id h)))

-- ---- a rope that is changed

-- the rope of a number becomes another
abbrev pub changed : ℕ → (Rope → Rope) → Rope → Rope
changed id g rope = cond (rope.id == id) (g rope) rope

abbrev pub other_than : ℕ → Rope → Bool
other_than id rope = not (rope.id == id)

pub map_none : (id : ℕ) (g : Rope → Rope) (ropes : List Rope) → rope_of ropes id ≡ None → map (changed id g) ropes ≡ ropes
map_none id g [] none = refl
map_none id g (rope ∷ ropes) none =
    split (rope.id == id)
    (λ e. cc (none, ap (λ b. cond b (Some rope) (rope_of ropes id)) e))
    (λ e. let rest = map_none id g ropes (sym (ap (λ b. cond b (Some rope) (rope_of ropes id)) e) ∙ none) in
    ap (λ l. changed id g rope ∷ l) rest ∙ ap (λ b. cond b (g rope) rope ∷ ropes) e)

pub without_none : (id : ℕ) (ropes : List Rope) → rope_of ropes id ≡ None → without_rope id ropes ≡ ropes
without_none id [] none = refl
without_none id (rope ∷ ropes) none =
    split (rope.id == id)
    (λ e. cc (none, ap (λ b. cond b (Some rope) (rope_of ropes id)) e))
    (λ e. ap (λ b. cond (not b) (rope ∷ without_rope id ropes) (without_rope id ropes)) e ∙ ap (λ l. rope ∷ l) (without_none id ropes (sym (ap (λ b. cond b (Some rope) (rope_of ropes id)) e) ∙ none)))

pub gone : (id : ℕ) (ropes : List Rope) → rope_of (without_rope id ropes) id ≡ None
gone id [] = refl
gone id (rope ∷ ropes) =
    split (rope.id == id)
    (λ e. ap (λ b. rope_of (cond (not b) (rope ∷ without_rope id ropes) (without_rope id ropes)) id) e ∙ gone id ropes)
    (λ e. ap (λ b. rope_of (cond (not b) (rope ∷ without_rope id ropes) (without_rope id ropes)) id) e ∙ ap (λ b. cond b (Some rope) (rope_of (without_rope id ropes) id)) e ∙ gone id ropes)
