use Rattle.std.proofs.Common.{arith, ◌≡◌, ◌<◌, [], length, get_or}
use Rattle.counted_row.proofs.Flat.{count-at}
use Rattle.counted_row.proofs.Points.{start-more, start-within}
use Rattle.counted_row.proofs.search.count_before.Goals as goal

pub overflow_add-count : goal.overflow_add-count
overflow_add-count g c =
    let cs = c.args.chunks.now.items in
    let within : c.loop-j.j < length cs = omega (arith, c.loop-j-test.true, c.requires.within) in
    let count : c.len-count.result ≡ length (get_or cs c.loop-j.j []) = count-at cs c.loop-j.j c.len-count.result c.index.result.now within c.index.ensures c.len-count.ensures.value in
    omega (arith, count, c.loop-j.invariant.0, start-within cs c.loop-j.j within, c.requires.few)

pub loop-j-preserved : goal.loop-j-preserved
loop-j-preserved g c =
    let cs = c.args.chunks.now.items in
    let within : c.loop-j.j < length cs = omega (arith, c.loop-j-test.true, c.requires.within) in
    let count : c.len-count.result ≡ length (get_or cs c.loop-j.j []) = count-at cs c.loop-j.j c.len-count.result c.index.result.now within c.index.ensures c.len-count.ensures.value in
    (omega (arith, count, c.loop-j.invariant.0, start-more cs c.loop-j.j within), omega (arith, c.loop-j-test.true))
