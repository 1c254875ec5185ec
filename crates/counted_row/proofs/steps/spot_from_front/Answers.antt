use Rattle.std.proofs.Common.{arith, rules}
use Rattle.counted_row.proofs.Flat.{flat-step}
use Rattle.counted_row.proofs.steps.spot_from_front.Goals as goal

pub loop-i-preserved : goal.loop-i-preserved
loop-i-preserved g c = flat-step c.args.chunks.now.items c.loop-i.i c.chunk-item.result c.len-count.result c.loop-i.rest c.args.k (omega (arith, c.loop-i-test.true)) (search rules) (search rules) (search rules) c.loop-i.invariant
