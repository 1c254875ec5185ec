-- A block lies in its disk.
use Rattle.std.proofs.Common.{◌≡◌, ℕ, ◌+◌, ◌*◌, ◌^◌, ◌<◌, ◌≤◌, suc, suc-mul, arith}
use Rattle.std.proofs.Math.Nat.{mul-le-mul_left, mul-le-mul_right, mul_comm}
use Rattle.voice_units.specs.declared.shapes.Shape.{Shape}
use Rattle.voice_units.specs.Layout.{bytes_needed}
use Rattle.voice_blocks.specs.Place.{block_place}

below_suc : (a b : ℕ) → a < b → suc a ≤ b
below_suc a b below = omega arith

-- the block behind is still among the blocks
next_product : (block blocks address : ℕ) → address < blocks → address * block + block ≤ block * blocks
next_product block blocks address below =
    let step = mul-le-mul_right block (below_suc address blocks below) in
    let e : suc address * block ≡ address * block + block = rw suc-mul in
    rw (mul_comm block blocks) (omega (arith, step, e))

pub product_fits : (shape : Shape) (address : ℕ) → address < 2 ^ 32 → address * shape.block ≤ 2 ^ 45
product_fits shape address below =
    let most : shape.block ≤ 8192 = shape.conditions.block_limit in
    let first = mul-le-mul_left address most in
    omega (arith, first, below)

pub place_fits : (shape : Shape) (address : ℕ) → address < 2 ^ 32 → block_place shape address < 2 ^ 64
place_fits shape address below = let p = product_fits shape address below in omega (arith, shape.conditions, p)

pub block_within : (shape : Shape) (address size : ℕ) → address < shape.blocks → bytes_needed shape.block shape.blocks shape.area ≤ size → block_place shape address + shape.block ≤ size
block_within shape address size below fits = let p = next_product shape.block shape.blocks address below in omega (arith, p, fits)

pub run_within : (shape : Shape) (address n size : ℕ) → address * shape.block + n ≤ shape.block * shape.blocks → bytes_needed shape.block shape.blocks shape.area ≤ size → block_place shape address + n ≤ size
run_within shape address n size within fits = omega (arith, within, fits)
