-- The blocks of a piece, one behind another.
use Rattle.std.proofs.Common.{◌≡◌, ℕ, zero, suc, ◌+◌, ◌-◌, ◌/◌, ◌<◌, ◌≤◌, Bool, true, false, ◌&&◌, ◌||◌, ◌==◌, nat_lt, nat_le, refl, sym, ◌∙◌, ap, arith}
use Rattle.std.proofs.Math.Nat.{div-mul-le_self, add-div_right}
use Rattle.std.proofs.lemmas.Nat.{le-div}
use Rattle.std.proofs.lemmas.Bool.Decides.{nat_tests}
use Rattle.voice_units.specs.declared.pieces.Piece.{Piece}
use Rattle.voice_units.specs.Spots.{spots_in, spots_from}
use Rattle.voice_units.specs.Blocks.{BlockPair, pair_at, pairs_at, has_pair, same_pair, in_run}

pub div_grows : (a b k : ℕ) → 0 < k → a ≤ b → a / k ≤ b / k
div_grows a b k some le = le-div (a / k) b k some (omega (arith, div-mul-le_self a k, le))

div_step : (a k : ℕ) → 0 < k → (a + 1) / k ≤ a / k + 1
div_step a k some = let e = add-div_right a {k = k} some in let g = div_grows (a + 1) (a + k) k some (omega arith) in omega (arith, e, g)

one_block : (f : Bool) (i a : ℕ) → ((f && (i == a)) || false) ≡ (f && (nat_le a i && nat_lt i (a + 1)))
one_block true i a = grind (arith, nat_tests)
one_block false i a = refl

more_blocks : (f : Bool) (i a b e : ℕ) → a ≤ b → b ≤ a + 1 → b ≤ e → ((f && (i == a)) || (f && (nat_le b i && nat_lt i (e + 1)))) ≡ (f && (nat_le a i && nat_lt i (e + 1)))
more_blocks true i a b e h k l = grind (arith, nat_tests)
more_blocks false i a b e h k l = refl

run_from : (block file from n : ℕ) (q : BlockPair) → 0 < block → has_pair (pairs_at block (spots_from file from (suc n))) q ≡ in_run file (from / block) ((from + n) / block + 1) q
run_from block file from zero q some = one_block (q.file == file) q.index (from / block) ∙ ap (λ m. in_run file (from / block) (m / block + 1) q) (omega arith)
run_from block file from (suc n) q some =
    let same : from + 1 + n ≡ from + suc n = omega arith in
    ap (λ b. same_pair q (pair_at block (record { file = file; place = from })) || b) (run_from block file (from + 1) n q some)
    ∙ more_blocks (q.file == file) q.index (from / block) ((from + 1) / block) ((from + 1 + n) / block) (div_grows from (from + 1) block some (omega arith)) (div_step from block some) (div_grows (from + 1) (from + 1 + n) block some (omega arith))
    ∙ ap (λ m. in_run file (from / block) (m / block + 1) q) same

-- the blocks of a piece
pub run_of : (block : ℕ) (piece : Piece) (q : BlockPair) → 0 < block → 1 ≤ piece.len → has_pair (pairs_at block (spots_in piece)) q ≡ in_run piece.file (piece.from / block) ((piece.from + piece.len - 1) / block + 1) q
run_of block piece q some long =
    let n = piece.len - 1 in
    let one : suc n ≡ piece.len = omega (arith, long) in
    let end : piece.from + n ≡ piece.from + piece.len - 1 = omega (arith, long) in
    ap (λ m. has_pair (pairs_at block (spots_from piece.file piece.from m)) q) (sym one)
    ∙ run_from block piece.file piece.from n q some
    ∙ ap (λ m. in_run piece.file (piece.from / block) (m / block + 1) q) end

-- no block
pub no_run : (file first : ℕ) (q : BlockPair) → in_run file first first q ≡ false
no_run file first q = grind (arith, nat_tests)
