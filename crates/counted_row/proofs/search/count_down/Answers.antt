use Rattle.std.proofs.Common.{arith, ◌≡◌, ◌<◌, ◌-◌, [], length, get_or}
use Rattle.counted_row.proofs.Flat.{count-at}
use Rattle.counted_row.proofs.Points.{start-before}
use Rattle.counted_row.proofs.search.count_down.Goals as goal

pub overflow_sub-count : goal.overflow_sub-count
overflow_sub-count g c =
    let cs = c.args.chunks.now.items in let i = c.back.j - 1 in
    let within : i < length cs = omega (arith, c.back-test.true, c.back.invariant.1) in
    let count : c.len-count.result ≡ length (get_or cs i []) = count-at cs i c.len-count.result c.index.result.now within c.index.ensures c.len-count.ensures.value in
    omega (arith, count, c.back.invariant.0, start-before cs c.back.j (omega (arith, c.back-test.true)) c.back.invariant.1)

pub back-preserved : goal.back-preserved
back-preserved g c =
    let cs = c.args.chunks.now.items in let i = c.back.j - 1 in
    let within : i < length cs = omega (arith, c.back-test.true, c.back.invariant.1) in
    let count : c.len-count.result ≡ length (get_or cs i []) = count-at cs i c.len-count.result c.index.result.now within c.index.ensures c.len-count.ensures.value in
    (omega (arith, count, c.back.invariant.0, start-before cs c.back.j (omega (arith, c.back-test.true)) c.back.invariant.1), omega (arith, c.back.invariant.1), omega (arith, c.back-test.true))
