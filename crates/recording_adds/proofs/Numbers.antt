-- How many blocks bytes take, and how many of them are whole.
use Rattle.std.proofs.Common.{◌≡◌, ℕ, ◌+◌, ◌-◌, ◌*◌, ◌/◌, ◌%◌, ◌<◌, ◌≤◌, arith}
use Rattle.std.proofs.lemmas.Nat.{le-div, div-mul-add, div-add-mod', mul-le, same_from_place}
use Rattle.voice_units.specs.Blocks.{blocks_for}
use Rattle.voice_units.specs.declared.shapes.Shape.{Shape}

pub some_block : (shape : Shape) → 0 < shape.block
some_block shape = omega (arith, shape.conditions.some_block)

-- whole blocks have no more bytes
pub whole_below : (n block : ℕ) → n / block * block ≤ n
whole_below n block = let parts = div-add-mod' n block in omega (arith, parts)

pub whole_length_is : (n block : ℕ) → n - n % block ≡ n / block * block
whole_length_is n block = let parts = div-add-mod' n block in omega (arith, parts)

pub div_rises : (m n block : ℕ) → 0 < block → m ≤ n → m / block ≤ n / block
div_rises m n block some rises = let low = whole_below m block in le-div (m / block) n block some (omega (arith, low, rises))

pub div_few : (n block : ℕ) → 0 < block → n / block ≤ n
div_few n block some =
    let low = whole_below n block in
    let least : n / block * 1 ≤ n / block * block = mul-le (n / block) 1 (n / block) block (omega arith) some in
    omega (arith, low, least)

pub whole_rises : (block total n : ℕ) → 0 < block → total / block ≤ (total + n) / block
whole_rises block total n some = div_rises total (total + n) block some (omega arith)

pub blocks_rise : (block total n : ℕ) → 0 < block → blocks_for block total ≤ blocks_for block (total + n)
blocks_rise block total n some = div_rises (total + (block - 1)) (total + n + (block - 1)) block some (omega arith)

-- each whole block is one of the blocks
pub whole_needed : (block n : ℕ) → 0 < block → n / block ≤ blocks_for block n
whole_needed block n some = div_rises n (n + (block - 1)) block some (omega arith)

-- whole blocks take as many
pub whole_exact : (block count : ℕ) → 0 < block → blocks_for block (count * block) ≡ count
whole_exact block count some = div-mul-add count block (block - 1) (omega (arith, some))

-- blocks with a byte in common are one
pub same_place : (base block a c k : ℕ) → k < block → base + c * block ≤ base + a * block + k → base + a * block + k < base + c * block + block → c ≡ a
same_place base block a c k less low high = (same_from_place c (a * block + k - c * block) a k block (omega (arith, low, high)) less (omega (arith, low))).0
