use Rattle.std.proofs.Common.{◌≡◌, ◌∙◌, ◌+◌, ◌-◌, ◌<◌, ◌≤◌, length, arith}
use Rattle.recording_writer.proofs.Counted.{run_more, run_longer, run_whole}
use Rattle.recording_writer.proofs.writing.run_length.Goals as goal

pub loop-n-preserved : goal.loop-n-preserved
loop-n-preserved c =
    let xs = c.args.addresses.now in
    let within : c.args.from + c.loop-n.n < length xs = omega (arith, c.loop-n-test.true) in
    let some : 0 < c.loop-n.n = omega (arith, c.loop-n.auto.n) in
    (run_more xs c.args.from c.loop-n.n some c.loop-n.invariant.0 c.if-addresses-from.false, c.loop-n.invariant.1 ∙ run_longer xs c.args.from c.loop-n.n some within c.if-addresses-from.false)

pub returns-clause-longest : goal.returns-clause-longest
returns-clause-longest c =
    let xs = c.args.addresses.now in
    let some : 0 < c.loop-n.n = omega (arith, c.loop-n.auto.n) in
    let most : 1 ≤ length xs - c.args.from = omega (arith, c.requires) in
    let same : c.loop-n.n ≡ length xs - c.args.from = omega (arith, c.loop-n-test.false, c.loop-n.auto.n-end most) in
    c.loop-n.invariant.1 ∙ run_whole xs c.args.from c.loop-n.n (length xs - c.args.from) some same (omega (arith, c.requires))
