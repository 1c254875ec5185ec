use Rattle.std.proofs.Common.{arith, ◌≡◌, ◌+◌, ◌<◌, [], length, take, ap, sym, subst, ◌∙◌, get_or, slice_get}
use Rattle.std.specs.List.{remove}
use Rattle.std.proofs.lemmas.List.Edits.{length-remove}
use Rattle.counted_row.specs.Row.{flat, IsDense, Stands}
use Rattle.counted_row.proofs.Flat.{flat-get, flat-remove, dense-set, stands-within, stands-after}
use Rattle.counted_row.proofs.row.take_at.Goals as goal

pub overflow_sub-len : goal.overflow_sub-len
overflow_sub-len g c =
    let cs = c.args.chunks.now.items in
    omega (arith, c.requires.len, stands-within cs c.args.spot.now.chunk c.args.spot.now.place (length (flat (take c.args.spot.now.chunk cs)) + c.args.spot.now.place) c.requires.stands)

pub returns-clause-value : goal.returns-clause-value
returns-clause-value g c =
    let old = c.args.chunks.now.items in let mid = c.fill_up.new.chunks.items in
    let i = c.args.spot.now.chunk in let place = c.args.spot.now.place in
    let k = length (flat (take i old)) + place in
    let stands : Stands mid i place k = stands-after old mid i place k c.requires.stands c.fill_up.ensures.chunk c.fill_up.ensures.longer c.fill_up.ensures.front in
    sym c.take_out.ensures.value ∙ sym (flat-get mid i place k stands) ∙ ap (λ l. slice_get l k) c.fill_up.ensures.values

pub returns-clause-values : goal.returns-clause-values
returns-clause-values g c =
    let old = c.args.chunks.now.items in let mid = c.fill_up.new.chunks.items in
    let i = c.args.spot.now.chunk in let place = c.args.spot.now.place in
    let k = length (flat (take i old)) + place in
    let stands : Stands mid i place k = stands-after old mid i place k c.requires.stands c.fill_up.ensures.chunk c.fill_up.ensures.longer c.fill_up.ensures.front in
    ap flat c.take_out.ensures.chunks ∙ flat-remove mid i place k stands ∙ ap (λ l. remove l k) c.fill_up.ensures.values

pub returns-clause-len : goal.returns-clause-len
returns-clause-len g c =
    let old = c.args.chunks.now.items in let mid = c.fill_up.new.chunks.items in
    let i = c.args.spot.now.chunk in let place = c.args.spot.now.place in
    let k = length (flat (take i old)) + place in
    let stands : Stands mid i place k = stands-after old mid i place k c.requires.stands c.fill_up.ensures.chunk c.fill_up.ensures.longer c.fill_up.ensures.front in
    let within : k < length (flat old) = stands-within old i place k c.requires.stands in
    let values : flat c.take_out.new.chunks.items ≡ remove (flat old) k = ap flat c.take_out.ensures.chunks ∙ flat-remove mid i place k stands ∙ ap (λ l. remove l k) c.fill_up.ensures.values in
    omega (arith, c.requires.len, ap length values, length-remove (flat old) k within)

pub returns-clause-shorter : goal.returns-clause-shorter
returns-clause-shorter g c =
    let cs = c.args.chunks.now.items in
    omega (arith, c.requires.len, stands-within cs c.args.spot.now.chunk c.args.spot.now.place (length (flat (take c.args.spot.now.chunk cs)) + c.args.spot.now.place) c.requires.stands)

pub returns-clause-dense : goal.returns-clause-dense
returns-clause-dense g c =
    let old = c.args.chunks.now.items in let mid = c.fill_up.new.chunks.items in
    let i = c.args.spot.now.chunk in let place = c.args.spot.now.place in
    let k = length (flat (take i old)) + place in
    let stands : Stands mid i place k = stands-after old mid i place k c.requires.stands c.fill_up.ensures.chunk c.fill_up.ensures.longer c.fill_up.ensures.front in
    subst IsDense (sym c.take_out.ensures.chunks) (dense-set mid i (remove (get_or mid i []) place) (λ h. omega (arith, c.fill_up.ensures.long (omega (arith, h)), length-remove (get_or mid i []) place stands.1)) c.fill_up.ensures.dense)
