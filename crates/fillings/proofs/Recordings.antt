-- A recording whose bytes an image has is filled in as itself.
use Rattle.std.proofs.Common.{◌≡◌, ◌≢◌, ℕ, zero, suc, ◌+◌, ◌-◌, ◌*◌, ◌/◌, ◌<◌, ◌≤◌, ◌==◌, Bool, true, false, ◌||◌, cond, List, [], ◌∷◌, ◌++◌, map, length, Some, refl, ◌∙◌, ap, subst, arith}
use Rattle.std.proofs.lemmas.Nat.{le-div}
use Rattle.std.proofs.Math.Nat.{div-mul-le_self, add-mul, one-mul}
use Rattle.std.specs.Prelude.{slice_index}
use Rattle.voice_units.specs.Spots.{Spot, spots_from}
use Rattle.voice_units.specs.Blocks.{BlockPair, same_pair, pair_at, blocks_for}
use Rattle.voice_units.proofs.Distinct.{same_pair-true}
use Rattle.voice_model.specs.Samples.{Tagged, recording, recorded_from}
use Rattle.voice_model.specs.State.{Durable}
use Rattle.voice_model.specs.State.Effect.{Recorded}
use Rattle.voice_model.specs.Changes.{changed}
use Rattle.voice_model.specs.Replay.{Placed, Rebuilt, after_effect, acted, placed_from, has_place, address_of, filled, durable_by, recovered}
use Rattle.voice_model.specs.Base.{change_of}
use Rattle.voice_model.specs.Valid.{Every}
use Rattle.voice_model.specs.Places.{IsPlace, IsInRange, IsPlaced}
use Rattle.voice_model.specs.declared.changes.Change.TheVariants as changes
use Rattle.voice_model.proofs.FitsOfCalls.{recorded_length}
use Rattle.voice_model.proofs.PlacesKept.{same_itself}
use Rattle.fillings.specs.Laws.{HasBytes}
use Rattle.fillings.proofs.Filling.{each_imply, same_filling, address-front, address-behind}
use Rattle.fillings.proofs.Acted.{byte_at, sample_by, after_filled}

-- ---- the addresses of new blocks

other_pair : (p q : BlockPair) (same : Bool) → same_pair p q ≡ same → p ≢ q → same ≡ false
other_pair p q true e differ = absurd (differ (same_pair-true p q e))
other_pair p q false e differ = refl

abbrev block_in : ℕ → ℕ → BlockPair
block_in file index = record { file = file; index = index }

-- the j-th new block has the j-th address
address-new : (id from : ℕ) (addresses : List ℕ) (j : ℕ) → j < length addresses → address_of (placed_from id from addresses) (block_in id (from + j)) ≡ slice_index addresses j
address-new id from [] j h = absurd (omega (arith, h))
address-new id from (a ∷ rest) zero h =
    let same : block_in id from ≡ block_in id (from + 0) = ap (block_in id) (omega arith) in
    ap (λ b. cond b a (address_of (placed_from id (from + 1) rest) (block_in id (from + 0)))) (subst (λ (q : BlockPair). same_pair (block_in id from) q ≡ true) same (same_itself (block_in id from)))
address-new id from (a ∷ rest) (suc j) h =
    let p = block_in id from in
    let q = block_in id (from + suc j) in
    let differ : same_pair p q ≡ false = other_pair p q (same_pair p q) refl (λ e. let i : from ≡ from + suc j = ap (λ (x : BlockPair). x.index) e in absurd (omega (arith, i))) in
    ap (λ b. cond b a (address_of (placed_from id (from + 1) rest) q)) differ
    ∙ ap (λ (n : ℕ). address_of (placed_from id (from + 1) rest) (block_in id n)) (omega arith)
    ∙ address-new id (from + 1) rest j (omega (arith, h))

-- a file without a place
no_place : (next blocks : ℕ) (places : List Placed) (id index : ℕ) → Every (IsInRange next blocks) places → next ≤ id → has_place places (block_in id index) ≡ false
no_place next blocks [] id index h le = refl
no_place next blocks (place ∷ places) id index h le =
    let differ : same_pair place.pair (block_in id index) ≡ false =
    other_pair place.pair (block_in id index) (same_pair place.pair (block_in id index)) refl
    (λ e. let known = h.0.known in let file : place.pair.file ≡ id = ap (λ (x : BlockPair). x.file) e in absurd (omega (arith, known, file, le))) in
    ap (λ b. b || has_place places (block_in id index)) differ ∙ no_place next blocks places id index h.1 le

-- ---- the samples of a recording

map_recorded : (g : Spot → Tagged) (id from : ℕ) (bytes : List ℕ) → ((k : ℕ) → k < length bytes → g (record { file = id; place = from + k }) ≡ record { byte = slice_index bytes k; file = id; place = from + k }) → map g (spots_from id from (length bytes)) ≡ recorded_from id from bytes
map_recorded g id from [] each = refl
map_recorded g id from (byte ∷ bytes) each =
    let here : from + 0 ≡ from = omega arith in
    let first : g (record { file = id; place = from }) ≡ record { byte = byte; file = id; place = from } =
    subst (λ (n : ℕ). g (record { file = id; place = n }) ≡ record { byte = byte; file = id; place = n }) here (each 0 (omega arith)) in
    ap (λ x. x ∷ map g (spots_from id (from + 1) (length bytes))) first
    ∙ ap (λ l. record { byte = byte; file = id; place = from } ∷ l)
    (map_recorded g id (from + 1) bytes
    (λ k h. let next : from + suc k ≡ from + 1 + k = omega arith in
    subst (λ (n : ℕ). g (record { file = id; place = n }) ≡ record { byte = slice_index bytes k; file = id; place = n }) next (each (suc k) (omega (arith, h)))))

-- a sample's block is one of those that its recording takes
pub block_within : (block n k : ℕ) → 1 ≤ block → k < n → k / block < blocks_for block n
block_within block n k some less =
    let below : k / block * block ≤ k = div-mul-le_self k block in
    let parts : (k / block + 1) * block ≡ k / block * block + block = add-mul (k / block) 1 block ∙ ap (λ m. k / block * block + m) (one-mul block) in
    let reach : k / block + 1 ≤ (n + (block - 1)) / block = le-div (k / block + 1) (n + (block - 1)) block (omega (arith, some)) (omega (arith, below, parts, less, some)) in
    omega (arith, reach)

-- ---- what it makes

module _ (image : List ℕ) (b : Rebuilt) (id : ℕ) (bytes addresses : List ℕ) (placed : IsPlaced b) (new : b.next ≤ id) (count : length addresses ≡ blocks_for b.shape.block (length bytes)) (holds : HasBytes image b.shape addresses bytes) where
  abbrev places : List Placed
  places = placed_from id 0 addresses

  abbrev by_all : Spot → Tagged
  by_all s = sample_by image b.shape (b.places ++ places) s

  -- what stood is filled as before
  old_filled : durable_by by_all b.kept ≡ recovered image b
  old_filled =
      same_filling by_all (filled image b) b.kept
      (each_imply (IsPlace b.shape.block b.places) (λ s. by_all s ≡ filled image b s) (λ s h. ap (byte_at image s b.shape) (address-front b.places places (pair_at b.shape.block s) h.held)) b.ropes placed.placed)

  new_sample : (k : ℕ) → k < length bytes → by_all (record { file = id; place = k }) ≡ record { byte = slice_index bytes k; file = id; place = k }
  new_sample k h =
      let block = b.shape.block in
      let some : 8 ≤ block = b.shape.conditions.some_block in
      let within : k / block < blocks_for block (length bytes) = block_within block (length bytes) k (omega (arith, some)) h in
      let address : address_of (b.places ++ places) (block_in id (k / block)) ≡ slice_index addresses (k / block) =
      address-behind b.places places (block_in id (k / block)) (no_place b.next b.shape.blocks b.places id (k / block) placed.ranges new)
      ∙ ap (λ (n : ℕ). address_of places (block_in id n)) (omega arith)
      ∙ address-new id 0 addresses (k / block) (omega (arith, within, count)) in
      ap (byte_at image (record { file = id; place = k }) b.shape) address
      ∙ ap (λ (v : ℕ). let x : Tagged = record { byte = v; file = id; place = k } in x) (holds.each k h)

  -- the new rope has the bytes
  new_filled : map by_all (spots_from id 0 (length bytes)) ≡ recording id bytes
  new_filled = map_recorded by_all id 0 bytes (λ k h. let plain : k ≡ 0 + k = omega arith in subst (λ (n : ℕ). by_all (record { file = id; place = n }) ≡ record { byte = slice_index bytes k; file = id; place = n }) plain (new_sample k h))

  effect_filled : recovered image (after_effect b places (Some (Recorded id (spots_from id 0 (length bytes))))) ≡ changed b.form (recovered image b) (Recorded id (recording id bytes))
  effect_filled =
      after_filled image b places (Recorded id (spots_from id 0 (length bytes)))
      ∙ ap (λ (d : Durable Tagged). changed b.form d (Recorded id (map by_all (spots_from id 0 (length bytes))))) old_filled
      ∙ ap (λ l. changed b.form (recovered image b) (Recorded id l)) new_filled

  by_form : (wide : Bool) (n : ℕ) → n ≡ length bytes → recovered image (acted b (cond wide (changes.Wide id n addresses) (changes.Recorded id n addresses))) ≡ changed b.form (recovered image b) (Recorded id (recording id bytes))
  by_form true n e = ap (λ m. recovered image (acted b (changes.Wide id m addresses))) e ∙ effect_filled
  by_form false n e = ap (λ m. recovered image (acted b (changes.Recorded id m addresses))) e ∙ effect_filled

  pub recorded_filled : recovered image (acted b (change_of b.form addresses (Recorded id (recording id bytes)))) ≡ changed b.form (recovered image b) (Recorded id (recording id bytes))
  recorded_filled = by_form (b.form == 2) (length (recording id bytes)) (recorded_length id 0 bytes)
