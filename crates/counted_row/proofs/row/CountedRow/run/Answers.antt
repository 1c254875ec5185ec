use Rattle.std.proofs.Common.{◌≡◌, ◌+◌, ◌++◌, [], ap, subst, ◌∙◌, get_or, drop, length}
use Rattle.counted_row.specs.Row.{Row}
use Rattle.counted_row.proofs.Flat.{flat-run, run-some, at-index}
use Rattle.counted_row.proofs.row.CountedRow.run.Goals as goal

pub returns-clause-values : goal.returns-clause-values
returns-clause-values g c =
    let cs = c.self.inside.chunks.items in
    let stands = c.in-Some.ensures.some in
    let here : c.index.result.now ≡ get_or cs c.in-Some.spot.chunk [] = at-index cs c.in-Some.spot.chunk c.index.result.now stands.0 c.index.ensures in
    let is : c.tail.result.now ≡ drop c.in-Some.spot.place (get_or cs c.in-Some.spot.chunk []) = c.tail.ensures ∙ ap (λ l. drop c.in-Some.spot.place l) here in
    subst (λ (r : Row _). drop c.args.k r.items ≡ c.tail.result.now ++ drop (c.args.k + length c.tail.result.now) r.items) c.self.view_is
    (flat-run cs c.in-Some.spot.chunk c.in-Some.spot.place c.args.k c.tail.result.now stands is)

pub returns-clause-some : goal.returns-clause-some
returns-clause-some g c =
    let cs = c.self.inside.chunks.items in
    let stands = c.in-Some.ensures.some in
    let here : c.index.result.now ≡ get_or cs c.in-Some.spot.chunk [] = at-index cs c.in-Some.spot.chunk c.index.result.now stands.0 c.index.ensures in
    let is : c.tail.result.now ≡ drop c.in-Some.spot.place (get_or cs c.in-Some.spot.chunk []) = c.tail.ensures ∙ ap (λ l. drop c.in-Some.spot.place l) here in
    run-some cs c.in-Some.spot.chunk c.in-Some.spot.place c.args.k c.tail.result.now stands is
