use Rattle.std.proofs.Common.{arith}
use Rattle.voice_main.proofs.Wide.{total_more}
use Rattle.voice_main.proofs.make.byte_sum.Goals as goal

pub loop-b-preserved : goal.loop-b-preserved
loop-b-preserved c =
    let more = total_more c.args.bytes.now c.loop-b.b-index c.loop-b-test.true in
    let so_far = c.loop-b.invariant in
    let byte = c.from-sum.ensures in
    omega (arith, more, so_far, byte)
