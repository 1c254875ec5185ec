use Rattle.std.proofs.Common.{arith}
use Rattle.voice_blocks.proofs.Places.{product_fits}
use Rattle.voice_blocks.proofs.disk_blocks.block_place.Goals as goal

pub overflow_mul-result : goal.overflow_mul-result
overflow_mul-result c = omega (arith, c.args.shape.now.conditions)

pub overflow_add-result : goal.overflow_add-result
overflow_add-result c = omega (arith, c.args.shape.now.conditions)

pub overflow_mul-result-2 : goal.overflow_mul-result-2
overflow_mul-result-2 c = let p = product_fits c.args.shape.now c.args.address c.ranges.address.fits in omega (arith, p)

pub overflow_add-result-2 : goal.overflow_add-result-2
overflow_add-result-2 c = let p = product_fits c.args.shape.now c.args.address c.ranges.address.fits in omega (arith, p, c.args.shape.now.conditions)
