use Rattle.std.proofs.Common.{arith, ◌≡◌, ℕ, ◌-◌, ◌<◌, ◌≤◌, [], length, ap, sym, subst, ◌∙◌, get_or}
use Rattle.counted_row.specs.Row.{flat, IsDense}
use Rattle.counted_row.proofs.Flat.{dense-full, dense-push, flat-open, count-at}
use Rattle.counted_row.proofs.row.open_end.Goals as goal

pub open_last-requires-2-clause-stock : goal.open_last-requires-2-clause-stock
open_last-requires-2-clause-stock g c =
    let cs = c.args.chunks.now.items in
    let within : c.len-count.result - 1 < length cs = omega (arith, c.len-count.ensures, c.if-count-eq0.false, c.args.chunks.now.ok.0) in
    let n = count-at cs (c.len-count.result - 1) c.len.result c.index.result.now within c.index.ensures c.len.ensures.value in
    let full : length (get_or cs (c.len-count.result - 1) []) ≡ 256 = omega (arith, n, c.len.ensures.value, c.len.ensures.within, c.if-len-lt-CHUNK.false) in
    omega (arith, dense-full cs (c.len-count.result - 1) within full c.requires.dense, c.requires.stock)

pub open_last-requires-2-clause-room : goal.open_last-requires-2-clause-room
open_last-requires-2-clause-room g c =
    let cs = c.args.chunks.now.items in
    let within : c.len-count.result - 1 < length cs = omega (arith, c.len-count.ensures, c.if-count-eq0.false, c.args.chunks.now.ok.0) in
    let n = count-at cs (c.len-count.result - 1) c.len.result c.index.result.now within c.index.ensures c.len.ensures.value in
    let full : length (get_or cs (c.len-count.result - 1) []) ≡ 256 = omega (arith, n, c.len.ensures.value, c.len.ensures.within, c.if-len-lt-CHUNK.false) in
    omega (arith, dense-full cs (c.len-count.result - 1) within full c.requires.dense, c.requires.stock, c.requires.room)

pub returns-clause-values : goal.returns-clause-values
returns-clause-values g c = ap flat c.open_last-2.ensures.chunks ∙ flat-open c.args.chunks.now.items

pub returns-clause-dense : goal.returns-clause-dense
returns-clause-dense g c =
    let cs = c.args.chunks.now.items in
    let within : c.len-count.result - 1 < length cs = omega (arith, c.len-count.ensures, c.if-count-eq0.false, c.args.chunks.now.ok.0) in
    let n = count-at cs (c.len-count.result - 1) c.len.result c.index.result.now within c.index.ensures c.len.ensures.value in
    let long : 128 ≤ length (get_or cs (c.len-count.result - 1) []) = omega (arith, n, c.len.ensures.value, c.len.ensures.within, c.if-len-lt-CHUNK.false) in
    subst IsDense (sym c.open_last-2.ensures.chunks)
    (dense-push cs [] (λ i e. let same : i ≡ c.len-count.result - 1 = omega (arith, e, c.len-count.ensures, c.args.chunks.now.ok.0) in subst (λ (m : ℕ). 128 ≤ length (get_or cs m [])) (sym same) long) c.requires.dense)
