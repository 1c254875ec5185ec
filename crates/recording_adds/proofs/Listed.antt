-- The addresses of blocks of a lane's open recording.
use Rattle.std.proofs.Common.{◌≡◌, inl, inr, ℕ, zero, suc, ◌+◌, ◌<◌, List, [], ◌∷◌, length, Option, Some, None, refl, sym, ◌∙◌, ap, arith}
use Rattle.std.specs.Prelude.{slice_index}
use Rattle.voice_units.specs.declared.shapes.Shape.{Shape}
use Rattle.voice_outside.specs.Disk.{Told}
use Rattle.voice_blocks.specs.Holders.{Holders, holder_at, block_of}
use Rattle.voice_blocks.specs.declared.owner.Owner.{Owner}
use Rattle.voice_blocks.specs.declared.owner.Owner.TheVariants.{Taking}
use Rattle.voice_blocks.specs.declared.owner.Holder.{Holder}
use Rattle.recording_writer.specs.Wrote.{AreBelow, AreDistinct, WroteAt}
use Rattle.next_ropes.specs.Addresses.{KeepsAddresses}
use Rattle.open_recordings.specs.Blocks.{AreAt, AreAddresses}
use Rattle.open_recordings.proofs.Counted.{index_in}
use Rattle.open_recordings.proofs.Listed.{held_below}
use Rattle.recording_adds.specs.Adds.{IsOpenTo}

at_index : (hs : Holders) (o : Owner) (from : ℕ) (addresses : List ℕ) (k : ℕ) → AreAt hs o from addresses → k < length addresses → holder_at hs (slice_index addresses k) ≡ Some (block_of o (from + k))
at_index hs o from [] k h less = absurd (omega (arith, less))
at_index hs o from (a ∷ rest) zero h less = h.0 ∙ ap (λ j. Some (block_of o j)) (let e : from ≡ from + 0 = omega arith in e)
at_index hs o from (a ∷ rest) (suc k) h less = at_index hs o (from + 1) rest k h.1 (omega (arith, less)) ∙ ap (λ j. Some (block_of o j)) (let e : from + 1 + k ≡ from + suc k = omega arith in e)

module _ (hs : Holders) (o : Owner) (from count : ℕ) (addresses : List ℕ) (h : AreAddresses hs o from count addresses) where
  -- who holds them
  pub held_at : (k : ℕ) → k < length addresses → holder_at hs (slice_index addresses k) ≡ Some (block_of o (from + k))
  held_at k less = at_index hs o from addresses k h.each less

  pub are_below : AreBelow (length hs) addresses
  are_below k less = held_below hs (slice_index addresses k) (block_of o (from + k)) (held_at k less)

  pub are_distinct : AreDistinct addresses
  are_distinct j k less_j less_k same =
      let one : from + j ≡ from + k = ap index_in (sym (held_at j less_j) ∙ ap (holder_at hs) same ∙ held_at k less_k) in
      omega (arith, one)

-- before they were free, or those of the same blocks
pub were_open : (lane from count : ℕ) (old new : Holders) (addresses : List ℕ) → AreAddresses new (Taking lane) from count addresses → KeepsAddresses new old → (k : ℕ) → k < length addresses → IsOpenTo old lane from (slice_index addresses k)
were_open lane from count old new addresses h stays k less = by (holder_at old (slice_index addresses k)) refl
  where
    by : (o : Option Holder) → holder_at old (slice_index addresses k) ≡ o → IsOpenTo old lane from (slice_index addresses k)
    by None e = inl e
    by (Some g) e =
        let two : Some g ≡ Some (block_of (Taking lane) (from + k)) = sym (stays (slice_index addresses k) g e) ∙ held_at new (Taking lane) from count addresses h k less in
        inr (from + k, omega arith, e ∙ two)

-- where nothing is written nothing changes
pub wrote_none : (shape : Shape) (addresses : List ℕ) (disk : Told) → WroteAt shape addresses disk disk
wrote_none shape addresses disk = record {
  bytes = record { same_length = refl; outside = λ i apart. refl };
  now = λ image left. (image, left, record { same_length = refl; outside = λ i apart. refl });
  crash = λ t image le left. inl left;
}
