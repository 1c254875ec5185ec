use Rattle.std.proofs.Common.{◌≡◌, ◌<◌, ◌≤◌, ◌+◌, ◌^◌, true, nat_lt, sym, ◌∙◌, subst, arith}
use Rattle.std.specs.List.{list_all}
use Rattle.voice_units.specs.Spots.{spots_of}
use Rattle.voice_units.specs.Blocks.{pairs_at, has_pair}
use Rattle.rope_table.specs.Table.{uses_counted, live_counted}
use Rattle.rope_table.specs.Inside.{Uses, pair_named}
use Rattle.rope_table.proofs.Blocks.{same_pair-refl, only_one, each_used}
use Rattle.rope_table.proofs.Passes.{missing_unused}
use Rattle.rope_table.proofs.Wholes.{none_unused}
use Rattle.rope_table.proofs.counts.UseCounts.raise_used.Goals as goal

pub put_used-requires-clause-fits : goal.put_used-requires-clause-fits
put_used-requires-clause-fits c =
    let p = pair_named c.in-Some.name in
    subst (λ (v : Uses). has_pair (pairs_at v.block (spots_of c.args.pieces.now)) p ≡ true → uses_counted v.counts p + 1 < 2 ^ 32) (sym c.self.view_is) (c.requires.fits p) (c.in-Some.ensures p ∙ same_pair-refl p)

pub put_used-requires-clause-live_fits : goal.put_used-requires-clause-live_fits
put_used-requires-clause-live_fits c =
    let p = pair_named c.in-Some.name in
    let fits = subst (λ (v : Uses). has_pair (pairs_at v.block (spots_of c.args.pieces.now)) p ≡ true → uses_counted v.counts p + 1 < 2 ^ 32) (sym c.self.view_is) (c.requires.fits p) (c.in-Some.ensures p ∙ same_pair-refl p) in
    let less = subst (λ (v : Uses). live_counted v.counts p ≤ uses_counted v.counts p) (sym c.self.view_is) (c.requires.live_fits p) in
    omega (arith, fits, less)

pub returns-in-Some-clause-value : goal.returns-in-Some-clause-value
returns-in-Some-clause-value c =
    subst (λ (v : Uses). c.put_used.result ≡ list_all (λ pair. nat_lt 0 (uses_counted v.counts pair)) (pairs_at v.block (spots_of c.args.pieces.now))) c.self.view_is
    (c.put_used.ensures.value ∙ only_one (λ pair. nat_lt 0 (uses_counted c.self.inside.tally.counts pair)) (pairs_at c.self.inside.block (spots_of c.args.pieces.now)) (pair_named c.in-Some.name) c.in-Some.ensures)

pub touch_all-requires-clause-room : goal.touch_all-requires-clause-room
touch_all-requires-clause-room c = λ is.
    let pairs = pairs_at c.self.inside.block (spots_of c.args.pieces.now) in
    let most = missing_unused c.self.inside.tally pairs in
    let none = none_unused (uses_counted c.self.inside.tally.counts) pairs (each_used (uses_counted c.self.inside.tally.counts) pairs (sym c.if-not-are_used.ensures)) in
    omega (arith, most, none)

pub touch_all-requires-2-clause-room : goal.touch_all-requires-2-clause-room
touch_all-requires-2-clause-room c = λ is.
    let pairs = pairs_at c.self.inside.block (spots_of c.args.pieces.now) in
    let most = missing_unused c.self.inside.tally pairs in
    let none = none_unused (uses_counted c.self.inside.tally.counts) pairs (each_used (uses_counted c.self.inside.tally.counts) pairs (sym c.if-not-are_used.ensures)) in
    omega (arith, most, none)

pub returns-then-are_apart-clause-spare : goal.returns-then-are_apart-clause-spare
returns-then-are_apart-clause-spare c =
    let pairs = pairs_at c.self.inside.block (spots_of c.args.pieces.now) in
    let most = missing_unused c.self.inside.tally pairs in
    let none = none_unused (uses_counted c.self.inside.tally.counts) pairs (each_used (uses_counted c.self.inside.tally.counts) pairs (sym c.if-not-are_used.ensures)) in
    subst (λ (v : Uses). v.spare ≤ c.touch_all.new.tally.spare) c.self.view_is
    (omega (arith, most, none, c.touch_all.ensures.spare))

pub returns-clause-spare : goal.returns-clause-spare
returns-clause-spare c =
    let pairs = pairs_at c.self.inside.block (spots_of c.args.pieces.now) in
    let most = missing_unused c.self.inside.tally pairs in
    let none = none_unused (uses_counted c.self.inside.tally.counts) pairs (each_used (uses_counted c.self.inside.tally.counts) pairs (sym c.if-not-are_used.ensures)) in
    subst (λ (v : Uses). v.spare ≤ c.touch_all-3.new.tally.spare) c.self.view_is
    (omega (arith, most, none, c.touch_all-2.ensures.spare, c.touch_all-3.ensures.spare))
