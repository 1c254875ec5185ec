-- The bytes of whole blocks.
use Rattle.std.proofs.Common.{◌≡◌, inl, inr, ℕ, ◌+◌, ◌-◌, ◌*◌, ◌/◌, ◌<◌, ◌≤◌, Bool, true, false, List, length, Some, None, Ok, Err, sym, ◌∙◌, ap, ap₂, arith}
use Rattle.std.specs.Prelude.{slice_index, Result}
use Rattle.std.proofs.lemmas.Bool.{cases_lt}
use Rattle.std.proofs.lemmas.Nat.{div-mul-add, mod-mul-add, mul-le}
use Rattle.std.proofs.Math.Nat.{add-mul}
use Rattle.voice_units.specs.declared.shapes.Shape.{Shape}
use Rattle.voice_blocks.specs.Holders.{Holders, holder_at, block_of}
use Rattle.voice_blocks.specs.Place.{block_place}
use Rattle.voice_blocks.specs.declared.owner.Owner.TheVariants.{Taking}
use Rattle.voice_blocks.specs.declared.owner.Holder.{Holder}
use Rattle.recording_writer.specs.Wrote.{LiesOutside, SameOutside, byte_place}
use Rattle.running_tables.specs.Running.{IsGiven}
use Rattle.next_ropes.specs.Addresses.{KeepsAddresses}
use Rattle.open_recordings.specs.Blocks.{AreAddresses}
use Rattle.open_recordings.proofs.Counted.{index_in}
use Rattle.recording_adds.specs.Adds.{IsOpenTo, HasWhole, OnNone}
use Rattle.recording_adds.proofs.Numbers.{same_place, whole_below}
use Rattle.recording_adds.proofs.Listed.{held_at}

-- what holds anyway holds where bytes were not added
pub on_none : {E : Type 0} (result : Result Bool E) (P : Type 0) → P → OnNone result P
on_none (Ok true) P h = tt
on_none (Ok false) P h = h
on_none (Err e) P h = h

-- a block before one ends before it
ends_below : (index first block k n : ℕ) → index < first → k < block → first * block ≤ n → index * block + k < n
ends_below index first block k n low less fits =
    let step : (index + 1) * block ≤ first * block = mul-le (index + 1) block first block (omega (arith, low)) (omega arith) in
    let split : (index + 1) * block ≡ index * block + 1 * block = add-mul index 1 block in
    omega (arith, step, split, less, fits)

module _ (shape : Shape) (lane first : ℕ) (old new : Holders) (image later addresses before : List ℕ) (had : (index : ℕ) → index < first → IsGiven old (block_of (Taking lane) index))
    (single : (a c : ℕ) (h : Holder) → holder_at new a ≡ Some h → holder_at new c ≡ Some h → a ≡ c) (stays : KeepsAddresses new old) (own : (k : ℕ) → k < length addresses → IsOpenTo old lane first (slice_index addresses k))
    (same : SameOutside shape addresses image later) (all : first ≡ length before / shape.block) (has : HasWhole shape image old lane before) where
  -- a block that was whole has the address that it had
  old_at : (a index : ℕ) → index < first → holder_at new a ≡ Some (block_of (Taking lane) index) → holder_at old a ≡ Some (block_of (Taking lane) index)
  old_at a index low e =
      let at = had index low in
      let one : a ≡ at.0 = single a at.0 (block_of (Taking lane) index) e (stays at.0 (block_of (Taking lane) index) at.1) in
      ap (holder_at old) one ∙ at.1

  -- nothing is written there
  lies_outside : (a index k : ℕ) → index < first → holder_at old a ≡ Some (block_of (Taking lane) index) → k < shape.block → LiesOutside shape addresses (block_place shape a + k)
  lies_outside a index k low e less j within from to =
      let one : slice_index addresses j ≡ a = same_place (64 + 2 * shape.area) shape.block a (slice_index addresses j) k less from to in
      let here : holder_at old (slice_index addresses j) ≡ Some (block_of (Taking lane) index) = ap (holder_at old) one ∙ e in
      elim (own j within) [
        | inl none ↦ (let bad : None ≡ Some (block_of (Taking lane) index) = sym none ∙ here in cc)
        | inr r ↦ (let i : r.0 ≡ index = ap index_in (sym r.2 ∙ here) in let above = r.1 in absurd (omega (arith, low, i, above)))
      ]

  old_kept : (a index k : ℕ) → index < first → holder_at new a ≡ Some (block_of (Taking lane) index) → k < shape.block → slice_index later (block_place shape a + k) ≡ slice_index before (index * shape.block + k)
  old_kept a index k low e less =
      let was = old_at a index low e in
      same.outside (block_place shape a + k) (lies_outside a index k low was less) ∙ has a index k was (omega (arith, low, all)) less

  -- what was whole stands
  pub still_whole : HasWhole shape later new lane before
  still_whole a index k e low less = old_kept a index k (omega (arith, low, all)) e less

  -- and what became whole is written
  pub more_whole : (count : ℕ) (samples after : List ℕ) → AreAddresses new (Taking lane) first count addresses → length samples ≡ count * shape.block → length after / shape.block ≡ first + count
      → ((k : ℕ) → k < length before → slice_index after k ≡ slice_index before k) → ((k : ℕ) → k < length samples → slice_index samples k ≡ slice_index after (first * shape.block + k))
      → ((k : ℕ) → k < length samples → slice_index later (byte_place shape addresses k) ≡ slice_index samples k) → HasWhole shape later new lane after
  more_whole count samples after listed size ends front fresh written a index k e low less = elim (cases_lt index first) [
    | inl under ↦ (
        let whole = whole_below (length before) shape.block in
        let product : first * shape.block ≡ length before / shape.block * shape.block = ap (λ q. q * shape.block) all in
        old_kept a index k under e less ∙ sym (front (index * shape.block + k) (ends_below index first shape.block k (length before) under less (omega (arith, whole, product)))))
    | inr over ↦ (
        let j = index - first in
        let many = listed.many in
        let index_is : first + j ≡ index = omega (arith, over) in
        let low_j : j < count = omega (arith, over, low, ends) in
        let at : holder_at new (slice_index addresses j) ≡ Some (block_of (Taking lane) index) = held_at new (Taking lane) first count addresses listed j (omega (arith, many, low_j)) ∙ ap (λ i. Some (block_of (Taking lane) i)) index_is in
        let one : slice_index addresses j ≡ a = single (slice_index addresses j) a (block_of (Taking lane) index) at e in
        let place : byte_place shape addresses (j * shape.block + k) ≡ block_place shape a + k =
        ap₂ (λ q r. block_place shape (slice_index addresses q) + r) (div-mul-add j shape.block k less) (mod-mul-add j shape.block k less) ∙ ap (λ c. block_place shape c + k) one in
        let within : j * shape.block + k < length samples = ends_below j count shape.block k (length samples) low_j less (omega (arith, size)) in
        let product : index * shape.block ≡ first * shape.block + j * shape.block = ap (λ i. i * shape.block) (sym index_is) ∙ add-mul first j shape.block in
        let behind : first * shape.block + (j * shape.block + k) ≡ index * shape.block + k = omega (arith, product) in
        ap (slice_index later) (sym place) ∙ written (j * shape.block + k) within ∙ fresh (j * shape.block + k) within ∙ ap (slice_index after) behind)
  ]
