use Rattle.std.proofs.Common.{◌≡◌, ◌+◌, [], length, take, ap, sym, ◌∙◌, get_or, slice_get}
use Rattle.counted_row.specs.Row.{flat}
use Rattle.counted_row.proofs.Flat.{flat-get, at-index}
use Rattle.counted_row.proofs.row.value_at.Goals as goal

pub returns : goal.returns
returns g c =
    let cs = c.args.chunks.now.items in
    let i = c.args.spot.now.chunk in
    let place = c.args.spot.now.place in
    let here : c.index.result.now ≡ get_or cs i [] = at-index cs i c.index.result.now c.requires.0 c.index.ensures in
    c.get.ensures
    ∙ ap (λ l. slice_get l place) here
    ∙ sym (flat-get cs i place (length (flat (take i cs)) + place) c.requires)
