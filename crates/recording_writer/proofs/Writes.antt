-- What a write of a run of blocks leaves.
use Rattle.std.proofs.Common.{◌≡◌, ◌⊎◌, inl, inr, ⊎_elim, ℕ, zero, suc, ◌+◌, ◌-◌, ◌*◌, ◌/◌, ◌%◌, ◌<◌, ◌≤◌, List, length, get_or, take, refl, ap, sym, subst, ◌∙◌, add-zero, suc-mul, arith}
use Rattle.std.specs.Prelude.{Result}
use Rattle.std.proofs.Math.Nat.{mul-le-mul_right, add-mul, mul_comm}
use Rattle.std.proofs.lemmas.Nat.{div-add-mod', div_below, mod_below, div-mul-add, mod-mul-add}
use Rattle.std.proofs.lemmas.Bool.{cases_lt}
use Rattle.std.specs.List.{between}
use Rattle.std.proofs.lemmas.List.{get_or-take, length-take-le}
use Rattle.std.proofs.lemmas.List.Edits.{get_or-between, length-between}
use Rattle.voice_units.specs.declared.shapes.Shape.{Shape}
use Rattle.voice_outside.specs.Disk.{Told, AgreesOutside, WritesAt, IsTorn, segment}
use Rattle.voice_blocks.specs.Place.{block_place}
use Rattle.recording_writer.specs.Runs.{IsRun}
use Rattle.recording_writer.specs.Wrote.{LiesOutside, SameOutside, IsTornAt, WroteAt, AreBelow, AreDistinct, Holds, byte_place}

pub some_block : (shape : Shape) → 0 < shape.block
some_block shape = omega (arith, shape.conditions.some_block)

-- a byte in no block is before a run of blocks or behind it
pub outside_run : (shape : Shape) (addresses : List ℕ) (from n i : ℕ) → from + n ≤ length addresses → IsRun addresses from n → LiesOutside shape addresses i →
    (i < block_place shape (get_or addresses from 0)) ⊎ (block_place shape (get_or addresses from 0) + n * shape.block ≤ i)
outside_run shape addresses from n i within run out =
    let b = shape.block in
    let p = block_place shape (get_or addresses from 0) in
    let some = some_block shape in
    ⊎_elim (λ (h : i < p). inl h)
    (λ (h : p ≤ i). ⊎_elim
    (λ (lt : i < p + n * b).
    let q = (i - p) / b in
    let q_below : q < n = div_below (i - p) b n some (omega arith) in
    let split : q * b + (i - p) % b ≡ i - p = div-add-mod' (i - p) b in
    let rest : (i - p) % b < b = mod_below (i - p) b some in
    let is : get_or addresses (from + q) 0 ≡ get_or addresses from 0 + q = run q q_below in
    let place : get_or addresses (from + q) 0 * b ≡ get_or addresses from 0 * b + q * b = ap (λ (m : ℕ). m * b) is ∙ add-mul (get_or addresses from 0) q b in
    absurd (out (from + q) (omega arith) (omega arith) (omega arith)))
    (λ (le : p + n * b ≤ i). inr le)
    (cases_lt i (p + n * b)))
    (cases_lt i p)

pub same_more : (shape : Shape) (addresses : List ℕ) (from n : ℕ) (a b c : List ℕ) → from + n ≤ length addresses → IsRun addresses from n →
    SameOutside shape addresses a b → AgreesOutside (block_place shape (get_or addresses from 0)) (n * shape.block) b c → SameOutside shape addresses a c
same_more shape addresses from n a b c within run ab bc = record {
  same_length = bc.same_length ∙ ab.same_length;
  outside = λ i out.
      ⊎_elim (λ before. bc.before i before) (λ behind. bc.after i behind) (outside_run shape addresses from n i within run out) ∙ ab.outside i out;
}

pub same_self : (shape : Shape) (addresses a : List ℕ) → SameOutside shape addresses a a
same_self shape addresses a = record { same_length = refl; outside = λ i out. refl }

pub wrote_nothing : (shape : Shape) (addresses : List ℕ) (old : Told) → WroteAt shape addresses old old
wrote_nothing shape addresses old = record {
  bytes = same_self shape addresses old.bytes;
  now = λ image m. (image, m, same_self shape addresses image);
  crash = λ t image le m. inl m;
}

-- a run of blocks, behind what was written
pub wrote_more : {T E : Type 0} (shape : Shape) (addresses : List ℕ) (from n : ℕ) (run : List ℕ) (old mid new : Told) (r : Result T E) → from + n ≤ length addresses → IsRun addresses from n → length run ≡ n * shape.block →
    old.calls ≤ mid.calls → WroteAt shape addresses old mid → WritesAt (block_place shape (get_or addresses from 0)) run mid new r → WroteAt shape addresses old new
wrote_more shape addresses from n run old mid new r within is_run whole later wrote writes =
    let p = block_place shape (get_or addresses from 0) in
    let torn : (image : List ℕ) → IsTorn p (length run) mid image → IsTornAt shape addresses old image =
    λ image t. let before = wrote.now t.0 t.1 in
    (before.0, before.1, same_more shape addresses from n before.0 t.0 image within is_run before.2 (subst (λ (m : ℕ). AgreesOutside p m t.0 image) whole t.2)) in
    record {
      bytes = same_more shape addresses from n old.bytes mid.bytes new.bytes within is_run wrote.bytes (subst (λ (m : ℕ). AgreesOutside p m mid.bytes new.bytes) whole writes.outside);
      now = λ image m. torn image (writes.now image m);
      crash = λ t image le m. ⊎_elim (λ before. wrote.crash t image le before) (λ gained. inr (torn image gained)) (writes.time.since t image (omega arith) m);
    }

-- fewer addresses leave more outside
pub same_wider : (shape : Shape) (addresses : List ℕ) (n : ℕ) (a b : List ℕ) → n ≤ length addresses → SameOutside shape (take n addresses) a b → SameOutside shape addresses a b
same_wider shape addresses n a b within same = record {
  same_length = same.same_length;
  outside = λ i out. same.outside i (λ k below.
      let size = length-take-le n addresses within in
      let is : get_or (take n addresses) k 0 ≡ get_or addresses k 0 = get_or-take n addresses k 0 (omega arith) in
      subst (λ (a : ℕ). block_place shape a ≤ i → ¬ (i < block_place shape a + shape.block)) (sym is) (out k (omega arith)));
}

pub wrote_wider : (shape : Shape) (addresses : List ℕ) (n : ℕ) (old new : Told) → n ≤ length addresses → WroteAt shape (take n addresses) old new → WroteAt shape addresses old new
wrote_wider shape addresses n old new within wrote =
    let wider : (image : List ℕ) → IsTornAt shape (take n addresses) old image → IsTornAt shape addresses old image =
    λ image t. (t.0, t.1, same_wider shape addresses n t.0 image within t.2) in
    record {
      bytes = same_wider shape addresses n old.bytes new.bytes within wrote.bytes;
      now = λ image m. wider image (wrote.now image m);
      crash = λ t image le m. ⊎_elim (λ before. inl before) (λ gained. inr (wider image gained)) (wrote.crash t image le m);
    }

apart : (shape : Shape) (a first n r : ℕ) → r < shape.block → (a < first) ⊎ (first + n ≤ a) →
    (block_place shape a + r < block_place shape first) ⊎ (block_place shape first + n * shape.block ≤ block_place shape a + r)
apart shape a first n r below cases =
    let b = shape.block in
    ⊎_elim (λ (lt : a < first).
    let le : suc a ≤ first = omega arith in
    let step : suc a * b ≤ first * b = mul-le-mul_right b le in
    let e : suc a * b ≡ a * b + b = suc-mul a b in
    inl (omega arith))
    (λ (le : first + n ≤ a).
    let step : (first + n) * b ≤ a * b = mul-le-mul_right b le in
    let e : (first + n) * b ≡ first * b + n * b = add-mul first n b in
    inr (omega arith))
    cases

-- another address than those of a run
not_in_run : (addresses : List ℕ) (from n j : ℕ) → from + n ≤ length addresses → IsRun addresses from n → AreDistinct addresses → j < from →
    (get_or addresses j 0 < get_or addresses from 0) ⊎ (get_or addresses from 0 + n ≤ get_or addresses j 0)
not_in_run addresses from n j within run differ before =
    let a = get_or addresses j 0 in
    let first = get_or addresses from 0 in
    ⊎_elim (λ (lt : a < first). inl lt)
    (λ (le : first ≤ a). ⊎_elim
    (λ (lt : a < first + n).
    let k : ℕ = a - first in
    let k_below : k < n = omega arith in
    let is = run k k_below in
    let same : a ≡ get_or addresses (from + k) 0 = omega arith in
    let e : j ≡ from + k = differ j (from + k) (omega arith) (omega arith) same in
    absurd (omega arith))
    (λ (le : first + n ≤ a). inr le)
    (cases_lt a (first + n)))
    (cases_lt a first)

-- the run's blocks are none of those in front
pub holds_still : (shape : Shape) (addresses bytes : List ℕ) (from n : ℕ) (a b : List ℕ) → from + n ≤ length addresses → IsRun addresses from n → AreDistinct addresses →
    AgreesOutside (block_place shape (get_or addresses from 0)) (n * shape.block) a b → Holds shape addresses bytes (from * shape.block) a → Holds shape addresses bytes (from * shape.block) b
holds_still shape addresses bytes from n a b within run differ agrees holds k below =
    let some = some_block shape in
    let j_below : k / shape.block < from = div_below k shape.block from some below in
    ⊎_elim (λ before. agrees.before (byte_place shape addresses k) before) (λ behind. agrees.after (byte_place shape addresses k) behind)
    (apart shape (get_or addresses (k / shape.block) 0) (get_or addresses from 0) n (k % shape.block) (mod_below k shape.block some) (not_in_run addresses from n (k / shape.block) within run differ j_below))
    ∙ holds k below

-- where a byte of a run stands
run_place : (shape : Shape) (addresses : List ℕ) (from n d k : ℕ) → IsRun addresses from n → d < n * shape.block → k ≡ from * shape.block + d →
    byte_place shape addresses k ≡ block_place shape (get_or addresses from 0) + d
run_place shape addresses from n d k run below is =
    let b = shape.block in
    let some = some_block shape in
    let q : ℕ = d / b in
    let r : ℕ = d % b in
    let q_below : q < n = div_below d b n some below in
    let r_below : r < b = mod_below d b some in
    let split : q * b + r ≡ d = div-add-mod' d b in
    let both : (from + q) * b ≡ from * b + q * b = add-mul from q b in
    let k_is : k ≡ (from + q) * b + r = omega arith in
    let row : k / b ≡ from + q = ap (λ (m : ℕ). m / b) k_is ∙ div-mul-add (from + q) b r r_below in
    let column : k % b ≡ r = ap (λ (m : ℕ). m % b) k_is ∙ mod-mul-add (from + q) b r r_below in
    let address : get_or addresses (k / b) 0 ≡ get_or addresses from 0 + q = ap (λ (m : ℕ). get_or addresses m 0) row ∙ run q q_below in
    let product : get_or addresses (k / b) 0 * b ≡ get_or addresses from 0 * b + q * b = ap (λ (m : ℕ). m * b) address ∙ add-mul (get_or addresses from 0) q b in
    omega arith

get_or-segment : (a : List ℕ) (p k i : ℕ) → i < k → get_or (segment a p k) i 0 ≡ get_or a (p + i) 0
unfolding segment
get_or-segment a p zero i lt = absurd (omega arith)
get_or-segment a p (suc k) zero lt = ap (λ (n : ℕ). get_or a n 0) (sym (add-zero p))
get_or-segment a p (suc k) (suc i) lt =
    let pi : suc p + i ≡ p + suc i = omega arith in get_or-segment a (suc p) k i (omega arith) ∙ ap (λ (n : ℕ). get_or a n 0) pi

-- the run's blocks hold the run
pub holds_run : (shape : Shape) (addresses bytes : List ℕ) (from n : ℕ) (run a : List ℕ) → IsRun addresses from n → length run ≡ n * shape.block →
    ((k : ℕ) → k < n * shape.block → get_or run k 0 ≡ get_or bytes (from * shape.block + k) 0) →
    segment a (block_place shape (get_or addresses from 0)) (length run) ≡ run → Holds shape addresses bytes (from * shape.block) a → Holds shape addresses bytes ((from + n) * shape.block) a
holds_run shape addresses bytes from n run a is_run whole same written holds k below =
    let b = shape.block in
    let p = block_place shape (get_or addresses from 0) in
    let both : (from + n) * b ≡ from * b + n * b = add-mul from n b in
    ⊎_elim (λ (lt : k < from * b). holds k lt)
    (λ (le : from * b ≤ k).
    let d : ℕ = k - from * b in
    let d_below : d < n * b = omega arith in
    let in_run : d < length run = omega arith in
    let is : k ≡ from * b + d = omega arith in
    ap (λ (m : ℕ). get_or a m 0) (run_place shape addresses from n d k is_run d_below is)
    ∙ sym (get_or-segment a p (length run) d in_run)
    ∙ ap (λ (l : List ℕ). get_or l d 0) written
    ∙ same d d_below
    ∙ ap (λ (m : ℕ). get_or bytes m 0) (sym is))
    (cases_lt k (from * b))

-- a run ends among the blocks
pub run_fits : (shape : Shape) (addresses : List ℕ) (from n size : ℕ) → 0 < n → from + n ≤ length addresses → IsRun addresses from n → AreBelow shape.blocks addresses → size ≡ n * shape.block →
    get_or addresses from 0 * shape.block + size ≤ shape.block * shape.blocks
run_fits shape addresses from n size some within run below is =
    let b = shape.block in
    let last = run (n - 1) (omega arith) in
    let last_below = below (from + (n - 1)) (omega arith) in
    let le : get_or addresses from 0 + n ≤ shape.blocks = omega arith in
    let step : (get_or addresses from 0 + n) * b ≤ shape.blocks * b = mul-le-mul_right b le in
    let both : (get_or addresses from 0 + n) * b ≡ get_or addresses from 0 * b + n * b = add-mul (get_or addresses from 0) n b in
    let turned : shape.blocks * b ≡ b * shape.blocks = mul_comm shape.blocks b in
    omega arith

-- the size of the bytes from one block's up to another's
pub part_size : (bytes : List ℕ) (b from n count : ℕ) → from + n ≤ count → length bytes ≡ count * b → length (between (from * b) ((from + n) * b) bytes) ≡ n * b
part_size bytes b from n count within whole =
    let both : (from + n) * b ≡ from * b + n * b = add-mul from n b in
    let step : (from + n) * b ≤ count * b = mul-le-mul_right b within in
    length-between bytes (from * b) ((from + n) * b) (omega arith) ∙ omega arith

pub part_at : (bytes : List ℕ) (b from n k : ℕ) → k < n * b → get_or (between (from * b) ((from + n) * b) bytes) k 0 ≡ get_or bytes (from * b + k) 0
part_at bytes b from n k below =
    let both : (from + n) * b ≡ from * b + n * b = add-mul from n b in
    get_or-between bytes (from * b) ((from + n) * b) k 0 (omega arith)

pub whole_blocks : (b n size : ℕ) → 0 < b → size ≡ n * b → size % b ≡ 0
whole_blocks b n size some is = let e : size ≡ n * b + 0 = omega arith in ap (λ (m : ℕ). m % b) e ∙ mod-mul-add n b 0 some
