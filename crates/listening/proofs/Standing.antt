-- The bytes of a stretch in its block, and the blocks of stretches.
use Rattle.std.proofs.Common.{◌≡◌, ℕ, zero, suc, ◌+◌, ◌-◌, ◌*◌, ◌/◌, ◌%◌, ◌<◌, ◌≤◌, Bool, true, false, ◌&&◌, ◌||◌, ◌==◌, List, [], ◌∷◌, length, map, take, drop, get_or, refl, sym, ◌∙◌, ap, ap₂, arith}
use Rattle.std.proofs.lemmas.Bool.{eq-eqb}
use Rattle.std.specs.Prelude.{Result, Ok, Err, OnOk}
use Rattle.std.proofs.lemmas.List.{length-take, length-drop}
use Rattle.std.proofs.Math.Seq.{drop-cons}
use Rattle.std.proofs.lemmas.Nat.{mod-mul-add, div-mul-add}
use Rattle.std.proofs.Math.Nat.{mod-add-div'}
use Rattle.voice_units.specs.declared.pieces.Piece.{Piece}
use Rattle.voice_units.specs.declared.shapes.Shape.{Shape}
use Rattle.voice_units.specs.Spots.{Spot, spots_from, spots_in, spots_of}
use Rattle.voice_units.specs.Blocks.{BlockPair, same_pair, pair_at, pairs_at, has_pair}
use Rattle.voice_outside.specs.Disk.{segment}
use Rattle.voice_blocks.specs.Place.{block_place}
use Rattle.rope_algebra.specs.Kept.{IsFirstStretch}
use Rattle.listening.specs.Heard.{byte_on, bytes_on, pair_of}

-- ---- bytes

length-segment : (image : List ℕ) (p n : ℕ) → length (segment image p n) ≡ n
unfolding segment
length-segment image p zero = refl
length-segment image p (suc n) = ap suc (length-segment image (suc p) n)

get_or-segment : (image : List ℕ) (p n i : ℕ) → i < n → get_or (segment image p n) i 0 ≡ get_or image (p + i) 0
unfolding segment
get_or-segment image p zero i low = absurd (omega arith)
get_or-segment image p (suc n) zero low = ap (λ k. get_or image k 0) (let e : p ≡ p + 0 = omega arith in e)
get_or-segment image p (suc n) (suc i) low = get_or-segment image (suc p) n i (omega arith) ∙ ap (λ k. get_or image k 0) (let e : suc p + i ≡ p + suc i = omega arith in e)

run : (image : List ℕ) (shape : Shape) (address : BlockPair → ℕ) (file q p : ℕ) (bs : List ℕ) (n from a : ℕ) → bs ≡ segment image p shape.block → p ≡ block_place shape (address (record { file = file; index = q })) → from ≡ q * shape.block + a → a + n ≤ shape.block → take n (drop a bs) ≡ map (byte_on image shape address) (spots_from file from n)
run image shape address file q p bs zero from a is place at fits = refl
run image shape address file q p bs (suc n) from a is place at fits =
    let low : a < shape.block = omega arith in
    let here : from / shape.block ≡ q = ap (λ m. m / shape.block) at ∙ div-mul-add q shape.block a low in
    let there : from % shape.block ≡ a = ap (λ m. m % shape.block) at ∙ mod-mul-add q shape.block a low in
    let long = ap (λ l. length l) is ∙ length-segment image p shape.block in
    let first : get_or bs a 0 ≡ byte_on image shape address (record { file = file; place = from }) =
    ap (λ l. get_or l a 0) is
    ∙ get_or-segment image p shape.block a low
    ∙ ap (λ k. get_or image (k + a) 0) place
    ∙ ap₂ (λ i k. get_or image (block_place shape (address (record { file = file; index = i })) + k) 0) (sym here) (sym there) in
    let later = run image shape address file q p bs n (from + 1) (a + 1) is place (omega (arith, at)) (omega arith) in
    ap (take (suc n)) (drop-cons bs a 0 (omega (arith, long)))
    ∙ ap₂ (λ x l. x ∷ take n l) first (ap (λ k. drop k bs) (let e : suc a ≡ a + 1 = omega arith in e))
    ∙ ap (λ l. byte_on image shape address (record { file = file; place = from }) ∷ l) later

-- the bytes of a stretch, where its block was read
pub stretch_bytes : (image : List ℕ) (shape : Shape) (address : BlockPair → ℕ) (s : Piece) (a : ℕ) (room : List ℕ) → s.from % shape.block + s.len ≤ shape.block → room ≡ segment image (block_place shape a) shape.block → a ≡ address (pair_of shape.block s) → take s.len (drop (s.from % shape.block) room) ≡ bytes_on image shape address (spots_in s)
stretch_bytes image shape address s a room inside is at =
    let whole = mod-add-div' s.from shape.block in
    run image shape address s.file (s.from / shape.block) (block_place shape a) room s.len s.from (s.from % shape.block) is (ap (block_place shape) at) (omega (arith, whole)) inside

-- what holds where a call succeeded
pub on_ok : {T E : Type 0} (r : Result T E) (P Q : Type 0) → (P → Q) → OnOk r P → OnOk r Q
on_ok (Ok x) P Q f h = f h
on_ok (Err e) P Q f h = h

-- the length of a part
pub part_length : (room : List ℕ) (a n : ℕ) → a + n ≤ length room → length (take n (drop a room)) ≡ n
part_length room a n within = let short = length-take n (drop a room) in let left = length-drop a room in omega (arith, short, left)

pub same_part : (room : List ℕ) (a n : ℕ) → take (a + n - a) (drop a room) ≡ take n (drop a room)
same_part room a n = ap (λ k. take k (drop a room)) (let e : a + n - a ≡ n = omega arith in e)

-- ---- blocks

own_pair : (block : ℕ) (s : Spot) → same_pair (pair_at block s) (pair_at block s) ≡ true
own_pair block s = ap (λ b. b && (s.place / block == s.place / block)) (eq-eqb s.file s.file refl) ∙ eq-eqb (s.place / block) (s.place / block) refl

or_true : (b : Bool) → (b || true) ≡ true
or_true true = refl
or_true false = refl

pair_there : (block : ℕ) (ss : List Spot) (at n : ℕ) (s : Spot) (rest : List Spot) → take n (drop at ss) ≡ s ∷ rest → has_pair (pairs_at block ss) (pair_at block s) ≡ true
pair_there block [] zero zero s rest e = cc
pair_there block [] zero (suc n) s rest e = cc
pair_there block [] (suc at) zero s rest e = cc
pair_there block [] (suc at) (suc n) s rest e = cc
pair_there block (t ∷ ts) zero zero s rest e = cc
pair_there block (t ∷ ts) zero (suc n) s rest e =
    let one : t ≡ s = cc in
    ap (λ r. same_pair (pair_at block s) (pair_at block r) || has_pair (pairs_at block ts) (pair_at block s)) one
    ∙ ap (λ b. b || has_pair (pairs_at block ts) (pair_at block s)) (own_pair block s)
pair_there block (t ∷ ts) (suc at) n s rest e =
    ap (λ b. same_pair (pair_at block s) (pair_at block t) || b) (pair_there block ts at n s rest e) ∙ or_true (same_pair (pair_at block s) (pair_at block t))

-- the block of a stretch is a block of the rope
pub stretch_pair : (block at : ℕ) (ps : List Piece) (s : Piece) → IsFirstStretch block at ps s → has_pair (pairs_at block (spots_of ps)) (pair_of block s) ≡ true
stretch_pair block at ps s h = by s.len refl
  where
    by : (n : ℕ) → s.len ≡ n → has_pair (pairs_at block (spots_of ps)) (pair_of block s) ≡ true
    by zero e = absurd (omega (arith, h.some))
    by (suc n) e = pair_there block (spots_of ps) at s.len (record { file = s.file; place = s.from }) (spots_from s.file (s.from + 1) n) (h.spots ∙ ap (spots_from s.file s.from) e)
