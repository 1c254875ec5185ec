use Rattle.std.proofs.Common.{arith, rules, ◌≡◌, ◌+◌, ◌<◌, ◌≤◌, [], length, get_or}
use Rattle.counted_row.proofs.Flat.{count-at}
use Rattle.counted_row.proofs.Points.{end-next, end-last, end-empty}
use Rattle.counted_row.proofs.search.settled.Goals as goal

pub returns-then-next-len-clause-none : goal.returns-then-next-len-clause-none
returns-then-next-len-clause-none g c =
    let cs = c.args.chunks.now.items in let i = c.args.end.chunk in
    let count : c.len.result ≡ length (get_or cs i []) = count-at cs i c.len.result c.index.result.now c.requires.chunk c.index.ensures c.len.ensures.value in
    let last : length cs ≤ i + 1 = search rules in
    end-last cs i c.args.end.place c.requires.chunk last (omega (arith, count, c.if-end-len.false, c.requires.place))

pub returns-then-len-eq0-clause-none : goal.returns-then-len-eq0-clause-none
returns-then-len-eq0-clause-none g c =
    let cs = c.args.chunks.now.items in let i = c.args.end.chunk in
    let count : c.len.result ≡ length (get_or cs i []) = count-at cs i c.len.result c.index.result.now c.requires.chunk c.index.ensures c.len.ensures.value in
    let next : i + 1 < length cs = search rules in
    let none : c.len-3.result ≡ length (get_or cs (i + 1) []) = count-at cs (i + 1) c.len-3.result c.index-2.result.now next c.index-2.ensures c.len-3.ensures.value in
    end-empty cs i c.args.end.place next c.requires.dense (omega (arith, none, c.if-len-eq0.true)) (omega (arith, count, c.if-end-len.false, c.requires.place))

pub returns-clause-some : goal.returns-clause-some
returns-clause-some g c =
    let cs = c.args.chunks.now.items in let i = c.args.end.chunk in
    let count : c.len.result ≡ length (get_or cs i []) = count-at cs i c.len.result c.index.result.now c.requires.chunk c.index.ensures c.len.ensures.value in
    let next : i + 1 < length cs = search rules in
    let some : c.len-3.result ≡ length (get_or cs (i + 1) []) = count-at cs (i + 1) c.len-3.result c.index-2.result.now next c.index-2.ensures c.len-3.ensures.value in
    end-next cs i c.args.end.place next (omega (arith, some, c.if-len-eq0.false)) (omega (arith, count, c.if-end-len.false, c.requires.place))
