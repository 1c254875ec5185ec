use Rattle.std.proofs.Common.{arith, ◌≡◌, ◌<◌, ◌+◌, ◌-◌, [], length, get_or}
use Rattle.counted_row.proofs.Flat.{count-at}
use Rattle.counted_row.proofs.Points.{start, start-before}
use Rattle.counted_row.proofs.steps.spot_from_end.Goals as goal

pub overflow_sub-start : goal.overflow_sub-start
overflow_sub-start g c =
    let cs = c.args.chunks.now.items in let i = c.back.i - 1 in
    let within : i < length cs = omega (arith, c.back-test.true, c.back.invariant.1) in
    let count : c.len-start.result ≡ length (get_or cs i []) = count-at cs i c.len-start.result c.index.result.now within c.index.ensures c.len-start.ensures.value in
    omega (arith, count, c.back.invariant.0, start-before cs c.back.i c.back-test.true c.back.invariant.1)

pub returns-then-start-k-clause-some : goal.returns-then-start-k-clause-some
returns-then-start-k-clause-some g c =
    let cs = c.args.chunks.now.items in let i = c.back.i - 1 in
    let within : i < length cs = omega (arith, c.back-test.true, c.back.invariant.1) in
    let count : c.len-start.result ≡ length (get_or cs i []) = count-at cs i c.len-start.result c.index.result.now within c.index.ensures c.len-start.ensures.value in
    let more : start cs c.back.i ≡ start cs i + length (get_or cs i []) = start-before cs c.back.i c.back-test.true c.back.invariant.1 in
    (within, omega (arith, count, more, c.back.invariant.0, c.back.invariant.2, c.if-start-k.true), omega (arith, count, more, c.back.invariant.0, c.if-start-k.true))

pub back-preserved : goal.back-preserved
back-preserved g c =
    let cs = c.args.chunks.now.items in let i = c.back.i - 1 in
    let within : i < length cs = omega (arith, c.back-test.true, c.back.invariant.1) in
    let count : c.len-start.result ≡ length (get_or cs i []) = count-at cs i c.len-start.result c.index.result.now within c.index.ensures c.len-start.ensures.value in
    (omega (arith, count, c.back.invariant.0, start-before cs c.back.i c.back-test.true c.back.invariant.1), omega (arith, c.back.invariant.1), omega (arith, c.if-start-k.false))
