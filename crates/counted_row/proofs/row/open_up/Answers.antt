use Rattle.std.proofs.Common.{arith, ◌≡◌, ◌+◌, ◌-◌, [], length, take, ap, sym, subst, ◌∙◌, get_or}
use Rattle.counted_row.specs.Row.{flat, IsDense, Stands}
use Rattle.counted_row.proofs.Flat.{dense-full, split-values, split-dense, split-stands, count-at}
use Rattle.counted_row.proofs.row.open_up.Goals as goal

pub split_at-requires-clause-stock : goal.split_at-requires-clause-stock
split_at-requires-clause-stock g c =
    let full : length (get_or c.args.chunks.now.items c.args.spot.now.chunk []) ≡ 256 = (let n = count-at c.args.chunks.now.items c.args.spot.now.chunk c.len.result c.index.result.now c.requires.stands c.index.ensures c.len.ensures.value in omega (arith, n, c.len.ensures.value, c.len.ensures.within, c.if-len-lt-CHUNK.false)) in
    omega (arith, dense-full c.args.chunks.now.items c.args.spot.now.chunk c.requires.stands full c.requires.dense, c.requires.stock)

pub split_at-requires-clause-room : goal.split_at-requires-clause-room
split_at-requires-clause-room g c =
    let full : length (get_or c.args.chunks.now.items c.args.spot.now.chunk []) ≡ 256 = (let n = count-at c.args.chunks.now.items c.args.spot.now.chunk c.len.result c.index.result.now c.requires.stands c.index.ensures c.len.ensures.value in omega (arith, n, c.len.ensures.value, c.len.ensures.within, c.if-len-lt-CHUNK.false)) in
    omega (arith, dense-full c.args.chunks.now.items c.args.spot.now.chunk c.requires.stands full c.requires.dense, c.requires.stock, c.requires.room)

pub returns-then-spot-lt-HALF-clause-values : goal.returns-then-spot-lt-HALF-clause-values
returns-then-spot-lt-HALF-clause-values g c =
    let s = c.split_at.ensures.chunks in
    ap flat s.4 ∙ split-values c.args.chunks.now.items c.args.spot.now.chunk s.0 s.1 c.requires.stands s.2

pub returns-then-spot-lt-HALF-clause-dense : goal.returns-then-spot-lt-HALF-clause-dense
returns-then-spot-lt-HALF-clause-dense g c =
    let s = c.split_at.ensures.chunks in
    let full : length (get_or c.args.chunks.now.items c.args.spot.now.chunk []) ≡ 256 = (let n = count-at c.args.chunks.now.items c.args.spot.now.chunk c.len.result c.index.result.now c.requires.stands c.index.ensures c.len.ensures.value in omega (arith, n, c.len.ensures.value, c.len.ensures.within, c.if-len-lt-CHUNK.false)) in
    subst IsDense (sym s.4) (split-dense c.args.chunks.now.items c.args.spot.now.chunk s.0 s.1 c.requires.stands s.2 s.3 full c.requires.dense)

pub returns-clause-values : goal.returns-clause-values
returns-clause-values g c =
    let s = c.split_at.ensures.chunks in
    ap flat s.4 ∙ split-values c.args.chunks.now.items c.args.spot.now.chunk s.0 s.1 c.requires.stands s.2

pub returns-clause-dense : goal.returns-clause-dense
returns-clause-dense g c =
    let s = c.split_at.ensures.chunks in
    let full : length (get_or c.args.chunks.now.items c.args.spot.now.chunk []) ≡ 256 = (let n = count-at c.args.chunks.now.items c.args.spot.now.chunk c.len.result c.index.result.now c.requires.stands c.index.ensures c.len.ensures.value in omega (arith, n, c.len.ensures.value, c.len.ensures.within, c.if-len-lt-CHUNK.false)) in
    subst IsDense (sym s.4) (split-dense c.args.chunks.now.items c.args.spot.now.chunk s.0 s.1 c.requires.stands s.2 s.3 full c.requires.dense)

pub returns-clause-stands : goal.returns-clause-stands
returns-clause-stands g c =
    let s = c.split_at.ensures.chunks in
    let i = c.args.spot.now.chunk in
    let place = c.args.spot.now.place in
    let cs = c.args.chunks.now.items in
    subst (λ l. Stands l (i + 1) (place - 128) (length (flat (take i cs)) + place)) (sym s.4)
    (split-stands cs i place s.0 s.1 c.requires.stands s.2 s.3 (omega (arith, c.if-spot-lt-HALF.false)) c.requires.within)
