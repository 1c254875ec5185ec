use Rattle.std.proofs.Common.{◌≡◌, ◌+◌, ◌-◌, arith}
use Rattle.voice_disk.specs.Over.{over_clipped}
use Rattle.voice_disk.proofs.record.put_over.Goals as goal

pub returns : goal.returns
returns c =
    let n : (c.min-start.result + c.min-n.result) - c.min-start.result ≡ c.min-n.result = omega arith in
    rw (c.copy_from_slice.ensures.after, n) (over_clipped c.args.bytes.now c.args.at c.args.from.now c.min-start.result c.min-n.result c.min-start.ensures c.min-n.ensures)
