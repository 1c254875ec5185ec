-- Names of blocks in the program's order: a set of them is determined by its blocks.
use Rattle.std.proofs.Common.{◌≡◌, ℕ, ◌<◌, inl, inr, ◌==◌, Bool, true, false, ◌&&◌, ◌||◌, List, [], ◌∷◌, refl, sym, ◌∙◌, ap, arith}
use Rattle.std.proofs.lemmas.Bool.{eqb-true}
use Rattle.std.proofs.lemmas.Cmp.{nat_cmp_total, on_total, then_total, ranked}
use Rattle.std.proofs.lemmas.Map.Lookups.{CmpEqualImpliesEq, btree_set_from_contains}
use Rattle.std.specs.Ordering.{nat_cmp, ordering_then, is_eq, eq_by_cmp}
use Rattle.std.specs.declared.cmp.Ordering.{Ordering}
use Rattle.std.specs.declared.cmp.Ordering.TheVariants.{Less, Equal, Greater}
use Rattle.std.specs.Cmp.{IsTotalOrder, unsigned_ties}
use Rattle.std.specs.List.{AllByRecursion}
use Rattle.std.specs.List.Sorted.{IsStrictlySortedBy}
use Rattle.std.specs.BTreeSet.{BTreeSet, IsOrdered}
use Rattle.voice_units.specs.Blocks.{BlockPair, same_pair}
use Rattle.voice_model.specs.Replay.{Placed, has_place}
use Rattle.voice_model.specs.Valid.{Every}
use Rattle.voice_model.specs.Places.{Pairwise, ComesFirst}
use Rattle.voice_model.proofs.Order.{before}
use Rattle.checkpoint.specs.declared.blocks.BlockName.{BlockName}
use Rattle.checkpoint.specs.Blocks.{name_cmp, name_of, pair_named, names_of, is_noted}

pub names_total : IsTotalOrder name_cmp
names_total = then_total (on_total (λ (p : BlockName). p.file) nat_cmp_total) (on_total (λ (p : BlockName). p.index) nat_cmp_total)

both_equal : (r o : Ordering) → is_eq (ordering_then r o) ≡ (is_eq r && is_eq o)
both_equal Less o = refl
both_equal Equal o = refl
both_equal Greater o = refl

ties : (p q : BlockPair) → same_pair p q ≡ eq_by_cmp name_cmp (name_of p) (name_of q)
ties p q =
    ap (λ b. b && (p.index == q.index)) (unsigned_ties p.file q.file)
    ∙ ap (λ b. eq_by_cmp nat_cmp p.file q.file && b) (unsigned_ties p.index q.index)
    ∙ sym (both_equal (nat_cmp p.file q.file) (nat_cmp p.index q.index))

both : (a b : Bool) → (a && b) ≡ true → (a ≡ true) × (b ≡ true)
both true b e = (refl, e)
both false b e = cc

exact_names : CmpEqualImpliesEq name_cmp
exact_names p q e =
    let same : same_pair (pair_named p) (pair_named q) ≡ true = ties (pair_named p) (pair_named q) ∙ ap is_eq e in
    let parts = both (p.file == q.file) (p.index == q.index) same in
    let file = eqb-true p.file q.file parts.0 in
    let index = eqb-true p.index q.index parts.1 in
    λ i. record { file = file i; index = index i }

-- ---- places in order

is_less : (x y : ℕ) → x < y → nat_cmp x y ≡ Less
is_less x y h = by (nat_cmp x y) refl
  where
    by : (r : Ordering) → nat_cmp x y ≡ r → nat_cmp x y ≡ Less
    by Less e = e
    by Equal e = let k = ranked x y Equal (sym e) in absurd (omega (arith, h, k))
    by Greater e = let k = ranked x y Greater (sym e) in absurd (omega (arith, h, k))

less_name : (p q : Placed) → ComesFirst p q → name_cmp (name_of p.pair) (name_of q.pair) ≡ Less
less_name p q h =
    elim (before p.pair q.pair h) [
      | inl less ↦ ap (λ o. ordering_then o (nat_cmp p.pair.index q.pair.index)) (is_less p.pair.file q.pair.file less)
      | inr same ↦ ap (λ n. ordering_then (nat_cmp p.pair.file n) (nat_cmp p.pair.index q.pair.index)) (sym same.0) ∙ by_index (nat_cmp p.pair.file p.pair.file) refl (is_less p.pair.index q.pair.index same.1)
    ]
  where
    by_index : (r : Ordering) → nat_cmp p.pair.file p.pair.file ≡ r → nat_cmp p.pair.index q.pair.index ≡ Less → ordering_then (nat_cmp p.pair.file p.pair.file) (nat_cmp p.pair.index q.pair.index) ≡ Less
    by_index Less e k = ap (λ o. ordering_then o (nat_cmp p.pair.index q.pair.index)) e
    by_index Equal e k = ap (λ o. ordering_then o (nat_cmp p.pair.index q.pair.index)) e ∙ k
    by_index Greater e k = let r = ranked p.pair.file p.pair.file Greater (sym e) in absurd (omega (arith, r))

all_less : (p : Placed) (ps : List Placed) → Every (ComesFirst p) ps → AllByRecursion (λ name. name_cmp (name_of p.pair) name ≡ Less) (names_of ps)
all_less p [] h = tt
all_less p (q ∷ qs) h = (less_name p q h.0, all_less p qs h.1)

pub names_sorted : (ps : List Placed) → Pairwise ComesFirst ps → IsStrictlySortedBy name_cmp (names_of ps)
unfolding IsStrictlySortedBy
names_sorted [] h = tt
names_sorted (p ∷ ps) h = (all_less p ps h.0, names_sorted ps h.1)

-- ---- the blocks of a set

abbrev set_of : List Placed → BTreeSet BlockName
set_of ps = record { keys = names_of ps }

same_swap : (p q : BlockPair) → same_pair p q ≡ same_pair q p
same_swap p q = by (same_pair p q) refl (same_pair q p) refl
  where
    by : (b : Bool) → same_pair p q ≡ b → (c : Bool) → same_pair q p ≡ c → same_pair p q ≡ same_pair q p
    by true e true f = e ∙ sym f
    by false e false f = e ∙ sym f
    by true e false f = let parts = both (p.file == q.file) (p.index == q.index) e in ap (λ n. (n == q.file) && (p.index == q.index)) (eqb-true p.file q.file parts.0) ∙ ap (λ n. (q.file == q.file) && (n == q.index)) (eqb-true p.index q.index parts.1) ∙ ap (λ n. (q.file == n) && (q.index == q.index)) (sym (eqb-true p.file q.file parts.0)) ∙ ap (λ n. (q.file == p.file) && (q.index == n)) (sym (eqb-true p.index q.index parts.1))
    by false e true f = let parts = both (q.file == p.file) (q.index == p.index) f in ap (λ n. (n == q.file) && (p.index == q.index)) (sym (eqb-true q.file p.file parts.0)) ∙ ap (λ n. (q.file == q.file) && (n == q.index)) (sym (eqb-true q.index p.index parts.1)) ∙ ap (λ n. (q.file == n) && (q.index == q.index)) (eqb-true q.file p.file parts.0) ∙ ap (λ n. (q.file == p.file) && (q.index == n)) (eqb-true q.index p.index parts.1)

noted_of : (ps : List Placed) (q : BlockPair) → is_noted (set_of ps) q ≡ has_place ps q
noted_of [] q = refl
noted_of (p ∷ ps) q =
    ap (λ b. b || is_noted (set_of ps) q) (sym (ties q p.pair) ∙ same_swap q p.pair)
    ∙ ap (λ b. same_pair p.pair q || b) (noted_of ps q)

-- a set that has just the blocks of places in order has them in that order
pub noted_names : (noted : BTreeSet BlockName) (ps : List Placed) → IsOrdered name_cmp noted → Pairwise ComesFirst ps → ((q : BlockPair) → is_noted noted q ≡ has_place ps q) → noted.keys ≡ names_of ps
noted_names noted ps ordered sorted same =
    btree_set_from_contains names_total noted (set_of ps) ordered (names_sorted ps sorted) (λ name. same (pair_named name) ∙ sym (noted_of ps (pair_named name))) exact_names
