-- Blocks of pieces, from their places.
use Rattle.std.proofs.Common.{◌≡◌, ℕ, zero, suc, ◌+◌, ◌/◌, ◌≤◌, ◌<◌, ◌==◌, Bool, true, false, cond, ◌||◌, List, ◌∷◌, Option, Some, None, refl, sym, ◌∙◌, ap, arith, drop}
use Rattle.std.specs.Prelude.{slice_get}
use Rattle.std.proofs.lemmas.Option.{slice_get_within, get_or_from_slice_get}
use Rattle.std.proofs.lemmas.Bool.{eqb-true, eq-eqb}
use Rattle.voice_blocks.specs.Holders.{block_of}
use Rattle.voice_blocks.specs.declared.owner.Owner.{Owner}
use Rattle.voice_blocks.specs.declared.owner.Owner.TheVariants.{File, Taking}
use Rattle.voice_blocks.specs.declared.owner.Holder.{Holder}
use Rattle.rope_table.specs.Table.{Table, uses_at, pair_of}
use Rattle.recovery.specs.Placing.{in_use, is_unused}
use Rattle.recovery.proofs.RowsGone.{drop_next}
use Rattle.voice_units.specs.Spots.{spots_from}
use Rattle.voice_units.specs.Blocks.{BlockPair, has_pair, pairs_at, same_pair}
use Rattle.voice_units.proofs.Distinct.{same_pair-true}

-- a block that a piece has is the block of one of its places
pub place_in : (block file from n : ℕ) (pair : BlockPair) {P : Type 0} → ((x : ℕ) → from ≤ x → x < from + n → pair ≡ record { file = file; index = x / block } → P) → has_pair (pairs_at block (spots_from file from n)) pair ≡ true → P
place_in block file from zero pair f e = cc
place_in block file from (suc n) pair {P} f e =
    either (same_pair pair (record { file = file; index = from / block })) (has_pair (pairs_at block (spots_from file (from + 1) n)) pair) e
    (λ same. f from (omega arith) (omega arith) (same_pair-true pair (record { file = file; index = from / block }) same))
    (λ later. place_in block file (from + 1) n pair (λ x low high is. f x (omega (arith, low)) (omega (arith, high)) is) later)
  where
    either : (a b : Bool) → (a || b) ≡ true → (a ≡ true → P) → (b ≡ true → P) → P
    either true b e f g = f refl
    either false b e f g = g e

pub drop_some : {A : Type 0} (xs : List A) (k : ℕ) (x : A) → Some x ≡ slice_get xs k → drop k xs ≡ x ∷ drop (k + 1) xs
drop_some xs k x e = drop_next xs k x (slice_get_within xs k x (sym e)) (sym (get_or_from_slice_get xs k x x (sym e)))

-- ---- who holds an address as uses are lowered

none_stays : (n m : ℕ) → m ≤ n → (n == 0) ≡ true → (m == 0) ≡ true
none_stays n m h e = let z = eqb-true n 0 e in eq-eqb m 0 (omega (arith, z, h))

unused_stays : (t u : Table) → ((pair : BlockPair) → uses_at u pair ≤ uses_at t pair) → (owner : Owner) (index : ℕ) → is_unused t owner index ≡ true → is_unused u owner index ≡ true
unused_stays t u fewer (File file) index e = none_stays (uses_at t (pair_of file index)) (uses_at u (pair_of file index)) (fewer (pair_of file index)) e
unused_stays t u fewer (Taking lane) index e = e

-- blocks that went earlier would go later
pub in_use_twice : (t u : Table) → ((pair : BlockPair) → uses_at u pair ≤ uses_at t pair) → (o : Option Holder) → in_use u (in_use t o) ≡ in_use u o
in_use_twice t u fewer None = refl
in_use_twice t u fewer (Some h) = by_test (is_unused t h.owner h.index) refl
  where
    by_test : (b : Bool) → is_unused t h.owner h.index ≡ b → in_use u (in_use t (Some h)) ≡ in_use u (Some h)
    by_test true e = ap (λ b. in_use u (cond b None (Some h))) e ∙ sym (ap (λ b. cond b None (Some h)) (unused_stays t u fewer h.owner h.index e))
    by_test false e = ap (λ b. in_use u (cond b None (Some h))) e

-- blocks of a rope that went, where nothing uses them, are dropped
pub freed_all : (t u : Table) (old new : Option Holder) → in_use t old ≡ old → in_use u new ≡ in_use u old → ((h : Holder) → new ≡ Some h → old ≡ Some h)
    → ((file index : ℕ) → uses_at u (pair_of file index) ≡ 0 → ¬ (uses_at t (pair_of file index) ≡ 0) → ¬ (new ≡ Some (block_of (File file) index))) → new ≡ in_use u old
freed_all t u old None was only held gone = only
freed_all t u old (Some h) was only held gone = by_owner h.owner refl (is_unused u h.owner h.index) refl
  where
    before : old ≡ Some h
    before = held h refl

    stays : is_unused u h.owner h.index ≡ false → Some h ≡ in_use u old
    stays e = sym (ap (in_use u) before ∙ ap (λ b. cond b None (Some h)) e)

    used : (b : Bool) → is_unused t h.owner h.index ≡ b → is_unused t h.owner h.index ≡ false
    used true e = let none : Some h ≡ None = sym (sym (ap (λ b. cond b None (Some h)) e) ∙ sym (ap (in_use t) before) ∙ was ∙ before) in cc
    used false e = e

    by_owner : (owner : Owner) → h.owner ≡ owner → (b : Bool) → is_unused u h.owner h.index ≡ b → Some h ≡ in_use u old
    by_owner owner o false e = stays e
    by_owner (File file) o true e =
        let zero_now : (uses_at u (pair_of file h.index) == 0) ≡ true = ap (λ x. is_unused u x h.index) (sym o) ∙ e in
        let some_then : (uses_at t (pair_of file h.index) == 0) ≡ false = ap (λ x. is_unused t x h.index) (sym o) ∙ used (is_unused t h.owner h.index) refl in
        absurd (gone file h.index (eqb-true (uses_at u (pair_of file h.index)) 0 zero_now) (λ k. let bad : true ≡ false = sym (eq-eqb (uses_at t (pair_of file h.index)) 0 k) ∙ some_then in cc) (ap (λ (x : Owner). let y : Option Holder = Some (block_of x h.index) in y) o))
    by_owner (Taking lane) o true e = let bad : true ≡ false = sym e ∙ ap (λ x. is_unused u x h.index) o in cc
