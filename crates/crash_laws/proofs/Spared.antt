-- Writes into free blocks leave each block that has a place.
use Rattle.std.proofs.Common.{◌≡◌, ◌⊎◌, inl, inr, ⊎_elim, ℕ, zero, suc, ◌+◌, ◌*◌, ◌<◌, ◌≤◌, ◌==◌, Bool, true, false, ◌||◌, not, List, [], ◌∷◌, length, refl, sym, ◌∙◌, ap, arith, eq-eqb}
use Rattle.std.specs.Prelude.{slice_index, nat_lt}
use Rattle.std.specs.List.{list_all}
use Rattle.std.proofs.Math.Nat.{mul-le-mul_right, add-mul, one-mul}
use Rattle.std.proofs.lemmas.Bool.{ltb-true}
use Rattle.voice_units.specs.declared.shapes.Shape.{Shape}
use Rattle.voice_units.specs.Blocks.{has_pair}
use Rattle.voice_units.proofs.PiecesOfRopes.{both}
use Rattle.voice_outside.specs.Disk.{Told}
use Rattle.voice_blocks.specs.Place.{block_place}
use Rattle.voice_journal.specs.Readings.{data_start}
use Rattle.voice_model.specs.State.{among}
use Rattle.voice_model.specs.Replay.{Placed, Rebuilt, all_differ, is_free_address, has_address, still_used, used_pairs}
use Rattle.voice_model.specs.Places.{AllUsed}
use Rattle.recovery.proofs.Rebuilding.{filter_all}
use Rattle.recording_writer.specs.Wrote.{LiesOutside, SameOutside, WroteAt, AreBelow, AreDistinct}
use Rattle.crash_laws.specs.Calls.{Spares, SparesWithin}

wrong : false ≡ true → ⊥
wrong e = cc

-- ---- addresses

not_true : (b : Bool) → not b ≡ true → b ≡ false
not_true true h = absurd (wrong h)
not_true false h = refl

pub each_at : (p : ℕ → Bool) (xs : List ℕ) → list_all p xs ≡ true → (k : ℕ) → k < length xs → p (slice_index xs k) ≡ true
each_at p [] h k less = absurd (omega (arith, less))
each_at p (x ∷ xs) h zero less = (both (p x) (list_all p xs) h).0
each_at p (x ∷ xs) h (suc k) less = each_at p xs (both (p x) (list_all p xs) h).1 k (omega (arith, less))

or_false : (a b : Bool) → (a || b) ≡ false → (a ≡ false) × (b ≡ false)
or_false true b h = absurd (wrong (sym h))
or_false false b h = (refl, h)

not_among : (xs : List ℕ) (a : ℕ) → among xs a ≡ false → (k : ℕ) → k < length xs → slice_index xs k ≡ a → ⊥
not_among [] a h k less e = absurd (omega (arith, less))
not_among (x ∷ xs) a h zero less e = wrong (sym (or_false (x == a) (among xs a) h).0 ∙ eq-eqb x a e)
not_among (x ∷ xs) a h (suc k) less e = not_among xs a (or_false (x == a) (among xs a) h).1 k (omega (arith, less)) e

pub distinct_at : (xs : List ℕ) → all_differ xs ≡ true → AreDistinct xs
distinct_at [] h j k less more e = absurd (omega (arith, less))
distinct_at (x ∷ xs) h zero zero less more e = refl
distinct_at (x ∷ xs) h zero (suc k) less more e = absurd (not_among xs x (not_true (among xs x) (both (not (among xs x)) (all_differ xs) h).0) k (omega (arith, more)) (sym e))
distinct_at (x ∷ xs) h (suc j) zero less more e = absurd (not_among xs x (not_true (among xs x) (both (not (among xs x)) (all_differ xs) h).0) j (omega (arith, less)) e)
distinct_at (x ∷ xs) h (suc j) (suc k) less more e = ap suc (distinct_at xs (both (not (among xs x)) (all_differ xs) h).1 j k (omega (arith, less)) (omega (arith, more)) e)

module _ (b : Rebuilt) (addresses : List ℕ) (spare : list_all (is_free_address b) addresses ≡ true) where
  parts_at : (k : ℕ) → k < length addresses → (nat_lt (slice_index addresses k) b.shape.blocks ≡ true) × (not (has_address (still_used b.kept b.places) (slice_index addresses k)) ≡ true)
  parts_at k less =
      both (nat_lt (slice_index addresses k) b.shape.blocks) (not (has_address (still_used b.kept b.places) (slice_index addresses k))) (each_at (is_free_address b) addresses spare k less)

  pub below_at : AreBelow b.shape.blocks addresses
  below_at = λ k less. ltb-true (slice_index addresses k) b.shape.blocks (parts_at k less).0

  pub free_at : AllUsed b → (k : ℕ) → k < length addresses → has_address b.places (slice_index addresses k) ≡ false
  free_at used k less =
      ap (λ (ps : List Placed). has_address ps (slice_index addresses k)) (sym (filter_all (λ (place : Placed). has_pair (used_pairs b.kept) place.pair) b.places used))
      ∙ not_true (has_address (still_used b.kept b.places) (slice_index addresses k)) (parts_at k less).1

-- ---- bytes

-- a block stands behind all lower ones
block_above : (low high block : ℕ) → low < high → low * block + block ≤ high * block
block_above low high block less =
    let whole : (low + 1) * block ≤ high * block = mul-le-mul_right block (omega (arith, less)) in
    let parts : (low + 1) * block ≡ low * block + block = add-mul low 1 block ∙ ap (λ n. low * block + n) (one-mul block) in
    omega (arith, whole, parts)

-- a byte of a block whose address is none of these lies outside of their blocks
pub outside_of : (shape : Shape) (addresses : List ℕ) (address i : ℕ) → ((k : ℕ) → k < length addresses → ¬ (slice_index addresses k ≡ address)) → block_place shape address ≤ i → i < block_place shape address + shape.block → LiesOutside shape addresses i
outside_of shape addresses address i other from to = λ k within low high. by k within low high (cases (slice_index addresses k) address)
  where
    cases : (x y : ℕ) → (x < y) ⊎ ((y < x) ⊎ (x ≡ y))
    cases x y = grind arith

    by : (k : ℕ) → k < length addresses → block_place shape (slice_index addresses k) ≤ i → i < block_place shape (slice_index addresses k) + shape.block → (slice_index addresses k < address) ⊎ ((address < slice_index addresses k) ⊎ (slice_index addresses k ≡ address)) → ⊥
    by k within low high (inl less) = let above = block_above (slice_index addresses k) address shape.block less in absurd (omega (arith, from, high, above))
    by k within low high (inr (inl more)) = let above = block_above address (slice_index addresses k) shape.block more in absurd (omega (arith, to, low, above))
    by k within low high (inr (inr same)) = other k within same

module _ (b : Rebuilt) (addresses : List ℕ) (below : AreBelow b.shape.blocks addresses) (free : (k : ℕ) → k < length addresses → has_address b.places (slice_index addresses k) ≡ false) where
  abbrev shape : Shape
  shape = b.shape

  before_data : (i : ℕ) → i < data_start shape → LiesOutside shape addresses i
  before_data i less = λ k within from to. absurd (omega (arith, less, from))

  behind_data : (i : ℕ) → data_start shape + shape.block * shape.blocks ≤ i → LiesOutside shape addresses i
  behind_data i more = λ k within from to.
      let above = block_above (slice_index addresses k) shape.blocks shape.block (below k within) in
      let product : shape.blocks * shape.block ≡ shape.block * shape.blocks = omega arith in
      absurd (omega (arith, more, to, above, product))

  in_place : (address i : ℕ) → has_address b.places address ≡ true → block_place shape address ≤ i → i < block_place shape address + shape.block → LiesOutside shape addresses i
  in_place address i has = outside_of shape addresses address i (λ k within same. wrong (sym (free k within) ∙ ap (λ (a : ℕ). has_address b.places a) same ∙ has))

  spares : (old new : List ℕ) → SameOutside shape addresses old new → Spares shape b old new
  spares old new same = record {
    apart = record {
      same_length = same.same_length;
      before = λ i less. same.outside i (before_data i less);
      after = λ i more. same.outside i (behind_data i more);
    };
    places = record { each = λ address i has from to. same.outside i (in_place address i has from to) };
  }

  pub spares_within : (old new : Told) → WroteAt shape addresses old new → SparesWithin shape b old new
  spares_within old new wrote = record {
    now = λ image left. let torn = wrote.now image left in (torn.0, torn.1, spares torn.0 image torn.2);
    crash = λ t image le left. ⊎_elim (λ was. inl was) (λ torn. inr (torn.0, torn.1, spares torn.0 image torn.2)) (wrote.crash t image le left);
  }
