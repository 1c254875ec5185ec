use Rattle.std.proofs.Common.{arith, ◌≡◌, ◌+◌, ◌<◌, [], length, take, ap, sym, subst, ◌∙◌, get_or}
use Rattle.std.specs.List.{insert}
use Rattle.std.proofs.lemmas.List.Edits.{length-insert}
use Rattle.counted_row.specs.Row.{flat, IsDense}
use Rattle.counted_row.proofs.Flat.{flat-insert, dense-set, dense-here, stands-within}
use Rattle.counted_row.proofs.row.put_at.Goals as goal

pub returns-clause-values : goal.returns-clause-values
returns-clause-values g c =
    let old = c.args.chunks.now.items in
    let k = length (flat (take c.args.spot.now.chunk old)) + c.args.spot.now.place in
    ap flat c.put_in.ensures.chunks
    ∙ flat-insert c.open_up-spot.new.chunks.items c.open_up-spot.result.chunk c.open_up-spot.result.place k c.args.value c.open_up-spot.ensures.stands
    ∙ ap (λ l. insert l k c.args.value) c.open_up-spot.ensures.values

pub returns-clause-len : goal.returns-clause-len
returns-clause-len g c =
    let old = c.args.chunks.now.items in
    let mid = c.open_up-spot.new.chunks.items in
    let k = length (flat (take c.args.spot.now.chunk old)) + c.args.spot.now.place in
    let within : k < length (flat mid) = stands-within mid c.open_up-spot.result.chunk c.open_up-spot.result.place k c.open_up-spot.ensures.stands in
    let values : flat c.put_in.new.chunks.items ≡ insert (flat mid) k c.args.value =
    ap flat c.put_in.ensures.chunks ∙ flat-insert mid c.open_up-spot.result.chunk c.open_up-spot.result.place k c.args.value c.open_up-spot.ensures.stands in
    omega (arith, c.requires.len, ap length values, length-insert (flat mid) k c.args.value (omega (arith, within)), ap length c.open_up-spot.ensures.values)

pub returns-clause-dense : goal.returns-clause-dense
returns-clause-dense g c =
    let mid = c.open_up-spot.new.chunks.items in
    let i = c.open_up-spot.result.chunk in
    let place = c.open_up-spot.result.place in
    let longer = insert (get_or mid i []) place c.args.value in
    subst IsDense (sym c.put_in.ensures.chunks) (dense-set mid i longer (λ h. omega (arith, dense-here mid i (omega (arith, h)) c.open_up-spot.ensures.dense, length-insert (get_or mid i []) place c.args.value (omega (arith, c.open_up-spot.ensures.stands.1)))) c.open_up-spot.ensures.dense)
