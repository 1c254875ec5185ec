-- The whole blocks of a recording, and the last one.
use Rattle.std.proofs.Common.{◌≡◌, ℕ, ◌+◌, ◌-◌, ◌*◌, ◌/◌, ◌%◌, ◌<◌, ◌≤◌, List, length, get_or, take, drop, Bool, true, false, cond, sym, ap, ⊎_elim, ◌∙◌, subst, arith, Ok, Err}
use Rattle.std.specs.Prelude.{Result, OnOk, ◌==◌}
use Rattle.std.proofs.lemmas.Bool.{eq-eqb, cases_eq}
use Rattle.std.proofs.Math.Nat.{add-mul}
use Rattle.std.proofs.Math.ListN.{get_or-eq_default}
use Rattle.std.proofs.lemmas.Nat.{div-add-mod', div_below, mod_below, div-mul-add}
use Rattle.std.proofs.lemmas.List.{get_or-take, get_or-drop, length-take-le}
use Rattle.std.specs.List.{between}
use Rattle.std.proofs.lemmas.Slice.{between_to_end}
use Rattle.voice_units.specs.declared.shapes.Shape.{Shape}
use Rattle.voice_units.specs.Blocks.{blocks_for}
use Rattle.voice_outside.specs.Disk.{AgreesOutside, segment}
use Rattle.voice_blocks.specs.Place.{block_place}
use Rattle.recording_writer.specs.Runs.{writes_for}
use Rattle.recording_writer.specs.Wrote.{AreDistinct, Holds, byte_place}
use Rattle.recording_writer.proofs.Counted.{runs_limit, run_of_one}
use Rattle.recording_writer.proofs.Writes.{some_block, holds_still, holds_run}

-- samples that fill their blocks
pub count_exact : (b n : ℕ) → 0 < b → n / b * b ≡ n → blocks_for b n ≡ n / b
count_exact b n some whole =
    let is : n + (b - 1) ≡ n / b * b + (b - 1) = omega arith in
    let less : b - 1 < b = omega arith in
    ap (λ (m : ℕ). m / b) is ∙ div-mul-add (n / b) b (b - 1) less

one_product : (m b : ℕ) → m + 1 * b ≡ m + b
one_product m b = omega arith

-- samples that leave a part of the last block
pub count_padded : (b n : ℕ) → 0 < b → ¬ (n / b * b ≡ n) → blocks_for b n ≡ n / b + 1
count_padded b n some part =
    let split : n / b * b + n % b ≡ n = div-add-mod' n b in
    let below : n % b < b = mod_below n b some in
    let rest : 0 < n % b = ⊎_elim (λ (h : n % b ≡ 0). absurd (part (omega arith))) (λ (h : n % b ≡ 0 → ⊥). omega arith) (cases_eq (n % b) 0) in
    let more : (n / b + 1) * b ≡ n / b * b + b = add-mul (n / b) 1 b ∙ one_product (n / b * b) b in
    let is : n + (b - 1) ≡ (n / b + 1) * b + (n % b - 1) = omega arith in
    let less : n % b - 1 < b = omega arith in
    ap (λ (m : ℕ). m / b) is ∙ div-mul-add (n / b + 1) b (n % b - 1) less

at_most_one : (b : Bool) → let n : ℕ = cond b 0 1 in n ≤ 1
at_most_one true = omega arith
at_most_one false = omega arith

-- no more device calls than blocks
pub few_writes : (b n : ℕ) (addresses : List ℕ) → 0 < b → length addresses ≡ blocks_for b n → writes_for b addresses n ≤ length addresses
few_writes b n addresses some enough =
    let split : n / b * b + n % b ≡ n = div-add-mod' n b in
    let limit = runs_limit (take (n / b) addresses) in
    let one = at_most_one (n % b == 0) in
    ⊎_elim
    (λ (h : n / b * b ≡ n).
    let count = count_exact b n some h in
    let size = length-take-le (n / b) addresses (omega arith) in
    let none : (n % b == 0) ≡ true = eq-eqb (n % b) 0 (omega arith) in
    let step : ℕ = cond (n % b == 0) 0 1 in
    let is : step ≡ 0 = ap (λ (t : Bool). let k : ℕ = cond t 0 1 in k) none in
    omega arith)
    (λ (h : n / b * b ≡ n → ⊥).
    let count = count_padded b n some h in
    let size = length-take-le (n / b) addresses (omega arith) in
    omega arith)
    (cases_eq (n / b * b) n)

-- what the whole blocks hold, by all addresses
pub holds_wider : (shape : Shape) (addresses samples : List ℕ) (w : ℕ) (a : List ℕ) → w * shape.block ≤ length samples → Holds shape (take w addresses) (take (w * shape.block) samples) (length (take (w * shape.block) samples)) a →
    Holds shape addresses samples (w * shape.block) a
holds_wider shape addresses samples w a within holds k below =
    let b = shape.block in
    let size = length-take-le (w * b) samples within in
    let row : k / b < w = div_below k b w (some_block shape) below in
    let same : get_or (take w addresses) (k / b) 0 ≡ get_or addresses (k / b) 0 = get_or-take w addresses (k / b) 0 row in
    ap (λ (m : ℕ). get_or a (block_place shape m + k % b) 0) (sym same) ∙ holds k (omega arith) ∙ get_or-take (w * b) samples k 0 below

-- the last block behind them
pub holds_last : (shape : Shape) (addresses samples room : List ℕ) (w : ℕ) (a c : List ℕ) → w * shape.block ≤ length samples → w + 1 ≤ length addresses → AreDistinct addresses → length room ≡ shape.block →
    ((k : ℕ) → get_or room k 0 ≡ get_or (between (w * shape.block) (length samples) samples) k 0) →
    AgreesOutside (block_place shape (get_or addresses w 0)) (length room) a c → segment c (block_place shape (get_or addresses w 0)) (length room) ≡ room →
    Holds shape (take w addresses) (take (w * shape.block) samples) (length (take (w * shape.block) samples)) a → Holds shape addresses samples ((w + 1) * shape.block) c
holds_last shape addresses samples room w a c within next differ whole filled agrees written holds =
    let b = shape.block in
    let p = block_place shape (get_or addresses w 0) in
    let size : length room ≡ 1 * b = omega arith in
    let one = run_of_one addresses w in
    let rest : between (w * b) (length samples) samples ≡ drop (w * b) samples = between_to_end samples (w * b) (length samples) (omega arith) in
    let same : (k : ℕ) → k < 1 * b → get_or room k 0 ≡ get_or samples (w * b + k) 0 = λ k below. filled k ∙ ap (λ (l : List ℕ). get_or l k 0) rest ∙ get_or-drop (w * b) samples k 0 in
    holds_run shape addresses samples w 1 room c one size same written
    (holds_still shape addresses samples w 1 a c next one differ (subst (λ (m : ℕ). AgreesOutside p m a c) size agrees) (holds_wider shape addresses samples w a within holds))

pub when_ok : {T E : Type 0} (r : Result T E) (P Q : Type 0) → (P → Q) → OnOk r P → OnOk r Q
when_ok (Ok v) P Q f h = f h
when_ok (Err e) P Q f h = tt

-- whole blocks come first
pub front_limit : (b n : ℕ) → n / b * b ≤ n
front_limit b n = let split : n / b * b + n % b ≡ n = div-add-mod' n b in omega arith

pub whole_limit : (b n count : ℕ) → 0 < b → count ≡ blocks_for b n → n / b ≤ count
whole_limit b n count some enough =
    ⊎_elim
    (λ (h : n / b * b ≡ n). let e = count_exact b n some h in omega arith)
    (λ (h : n / b * b ≡ n → ⊥). let e = count_padded b n some h in omega arith)
    (cases_eq (n / b * b) n)

pub next_limit : (b n count : ℕ) → 0 < b → count ≡ blocks_for b n → ¬ (n / b * b ≡ n) → n / b + 1 ≡ count
next_limit b n count some enough part = let e = count_padded b n some part in omega arith

-- the samples, and zeros behind them
pub samples_held : (shape : Shape) (addresses samples : List ℕ) (size : ℕ) (a : List ℕ) → length samples ≤ size → Holds shape addresses samples size a → Holds shape addresses samples (length samples) a
samples_held shape addresses samples size a within holds k below = holds k (omega arith)

pub zeros_held : (shape : Shape) (addresses samples : List ℕ) (size : ℕ) (a : List ℕ) → Holds shape addresses samples size a → (k : ℕ) → length samples ≤ k → k < size → get_or a (byte_place shape addresses k) 0 ≡ 0
zeros_held shape addresses samples size a holds k behind below = holds k below ∙ get_or-eq_default samples 0 behind

pub padded_limit : (b n : ℕ) → 0 < b → n ≤ (n / b + 1) * b
padded_limit b n some =
    let split : n / b * b + n % b ≡ n = div-add-mod' n b in
    let below : n % b < b = mod_below n b some in
    let more : (n / b + 1) * b ≡ n / b * b + b = add-mul (n / b) 1 b ∙ one_product (n / b * b) b in
    omega arith
