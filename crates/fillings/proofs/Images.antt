-- Images that agree where the samples of ropes lie fill alike.
use Rattle.std.proofs.Common.{◌≡◌, ℕ, zero, suc, ◌+◌, ◌*◌, ◌%◌, ◌<◌, ◌≤◌, true, false, List, refl, sym, ◌∙◌, ap, arith}
use Rattle.std.proofs.Math.Nat.{mul-le-mul_right, add-mul, one-mul}
use Rattle.std.specs.Prelude.{slice_index}
use Rattle.voice_units.specs.Spots.{Spot}
use Rattle.voice_units.specs.Blocks.{pair_at}
use Rattle.voice_outside.specs.Disk.{AgreesOutside}
use Rattle.voice_blocks.specs.Place.{block_place}
use Rattle.voice_model.specs.Samples.{Tagged}
use Rattle.voice_model.specs.Replay.{Rebuilt, has_address, address_of, filled, recovered}
use Rattle.voice_model.specs.Places.{IsPlace, IsPlaced}
use Rattle.voice_model.proofs.Order.{every-always}
use Rattle.voice_model.specs.State.{Live}
use Rattle.fillings.specs.Laws.{SameInPlaces}
use Rattle.fillings.proofs.Filling.{each_imply, same_filling, address_there}

same_byte : (s : Spot) (m n : ℕ) → m ≡ n → (let x : Tagged = record { byte = m; file = s.file; place = s.place } in x) ≡ (let x : Tagged = record { byte = n; file = s.file; place = s.place } in x)
same_byte s m n e = ap (λ (v : ℕ). let x : Tagged = record { byte = v; file = s.file; place = s.place } in x) e

-- ---- images that agree behind the areas

agree_behind : (b : Rebuilt) (old new : List ℕ) → AgreesOutside 64 (2 * b.shape.area) old new → (s : Spot) → filled new b s ≡ filled old b s
agree_behind b old new agrees s =
    same_byte s _ _ (agrees.after (64 + 2 * b.shape.area + address_of b.places (pair_at b.shape.block s) * b.shape.block + s.place % b.shape.block) (omega arith))

pub filled_behind : (b : Rebuilt) (old new : List ℕ) → AgreesOutside 64 (2 * b.shape.area) old new → recovered new b ≡ recovered old b
filled_behind b old new agrees =
    let one : (s : Spot) → filled new b s ≡ filled old b s = agree_behind b old new agrees in
    same_filling (filled new b) (filled old b) b.kept (every-always _ (λ (rope : Live Spot). every-always _ one rope.samples) b.ropes)

-- ---- images that agree in blocks with a place

agree_placed : (b : Rebuilt) (old new : List ℕ) → SameInPlaces b old new → (s : Spot) → IsPlace b.shape.block b.places s → filled new b s ≡ filled old b s
agree_placed b old new same s h =
    let some : 8 ≤ b.shape.block = b.shape.conditions.some_block in
    let address = address_of b.places (pair_at b.shape.block s) in
    same_byte s _ _ (same.each address (block_place b.shape address + s.place % b.shape.block) (address_there b.places (pair_at b.shape.block s) h.held) (omega arith) (omega (arith, some)))

pub filled_placed : (b : Rebuilt) (old new : List ℕ) → IsPlaced b → SameInPlaces b old new → recovered new b ≡ recovered old b
filled_placed b old new placed same =
    same_filling (filled new b) (filled old b) b.kept (each_imply (IsPlace b.shape.block b.places) (λ s. filled new b s ≡ filled old b s) (agree_placed b old new same) b.ropes placed.placed)

-- ---- writes that leave them

-- a block stands behind all lower ones
block_above : (low high block : ℕ) → low < high → low * block + block ≤ high * block
block_above low high block less =
    let whole : (low + 1) * block ≤ high * block = mul-le-mul_right block (omega (arith, less)) in
    let parts : (low + 1) * block ≡ low * block + block = add-mul low 1 block ∙ ap (λ n. low * block + n) (one-mul block) in
    omega (arith, whole, parts)

run_above : (low high count block : ℕ) → low + count ≤ high → low * block + count * block ≤ high * block
run_above low high count block less =
    let whole : (low + count) * block ≤ high * block = mul-le-mul_right block less in
    let parts : (low + count) * block ≡ low * block + count * block = add-mul low count block in
    omega (arith, whole, parts)

-- below a run, behind it, or in it
data Side (first count a : ℕ) : Type 0 where
  Below : a < first → Side first count a
  Behind : first + count ≤ a → Side first count a
  Inside : (k : ℕ) → k < count → first + k ≡ a → Side first count a

side : (first count a : ℕ) → Side first count a
side zero zero a = Behind (omega arith)
side zero (suc count) zero = Inside 0 (omega arith) refl
side zero (suc count) (suc a) = by (side zero count a)
  where
    by : Side zero count a → Side zero (suc count) (suc a)
    by (Below h) = absurd (omega (arith, h))
    by (Behind h) = Behind (omega (arith, h))
    by (Inside k h e) = Inside (suc k) (omega (arith, h)) (omega (arith, e))
side (suc first) count zero = Below (omega arith)
side (suc first) count (suc a) = by (side first count a)
  where
    by : Side first count a → Side (suc first) count (suc a)
    by (Below h) = Below (omega (arith, h))
    by (Behind h) = Behind (omega (arith, h))
    by (Inside k h e) = Inside k h (omega (arith, e))

-- a write into blocks without a place
pub same_free : (b : Rebuilt) (old new : List ℕ) (address count n : ℕ) → ((k : ℕ) → k < count → has_address b.places (address + k) ≡ false) → n ≤ count * b.shape.block → AgreesOutside (block_place b.shape address) n old new → SameInPlaces b old new
same_free b old new address count n free short agrees = record { each = λ other i there from to. by other i there from to (side address count other) }
  where
    by : (other i : ℕ) → has_address b.places other ≡ true → block_place b.shape other ≤ i → i < block_place b.shape other + b.shape.block → Side address count other → slice_index new i ≡ slice_index old i
    by other i there from to (Below h) = let above = block_above other address b.shape.block h in agrees.before i (omega (arith, to, above))
    by other i there from to (Behind h) = let above = run_above address other count b.shape.block h in agrees.after i (omega (arith, from, above, short))
    by other i there from to (Inside k h e) = let not_there : false ≡ true = sym (free k h) ∙ ap (has_address b.places) e ∙ there in cc

-- a write before all blocks
pub same_before : (b : Rebuilt) (old new : List ℕ) (at n : ℕ) → at + n ≤ block_place b.shape 0 → AgreesOutside at n old new → SameInPlaces b old new
same_before b old new at n within agrees = record { each = λ address i there from to. agrees.after i (omega (arith, within, from)) }

pub same_next : (b : Rebuilt) (old mid new : List ℕ) → SameInPlaces b old mid → SameInPlaces b mid new → SameInPlaces b old new
same_next b old mid new first then = record { each = λ address i there from to. then.each address i there from to ∙ first.each address i there from to }
