use Rattle.std.proofs.Common.{◌≤◌, ◌+◌, sym, subst, arith}
use Rattle.voice_units.specs.Spots.{spots_of}
use Rattle.voice_units.specs.Blocks.{pairs_at}
use Rattle.rope_table.specs.Table.{unused, uses_counted}
use Rattle.rope_table.specs.Inside.{Uses}
use Rattle.rope_table.proofs.Passes.{missing_unused}
use Rattle.rope_table.proofs.counts.UseCounts.raise.Goals as goal

pub touch_all-requires-clause-room : goal.touch_all-requires-clause-room
touch_all-requires-clause-room c = λ is.
    let most = missing_unused c.self.inside.tally (pairs_at c.self.inside.block (spots_of c.args.pieces.now)) in
    let room = subst (λ (v : Uses). unused (uses_counted v.counts) (pairs_at v.block (spots_of c.args.pieces.now)) ≤ v.spare) (sym c.self.view_is) c.requires.room in
    omega (arith, most, room)

pub touch_all-requires-2-clause-room : goal.touch_all-requires-2-clause-room
touch_all-requires-2-clause-room c = λ is.
    let most = missing_unused c.self.inside.tally (pairs_at c.self.inside.block (spots_of c.args.pieces.now)) in
    let room = subst (λ (v : Uses). unused (uses_counted v.counts) (pairs_at v.block (spots_of c.args.pieces.now)) ≤ v.spare) (sym c.self.view_is) c.requires.room in
    omega (arith, most, room)

pub returns-then-are_apart-clause-spare : goal.returns-then-are_apart-clause-spare
returns-then-are_apart-clause-spare c =
    let most = missing_unused c.self.inside.tally (pairs_at c.self.inside.block (spots_of c.args.pieces.now)) in
    subst (λ (v : Uses). v.spare ≤ c.touch_all.new.tally.spare + unused (uses_counted v.counts) (pairs_at v.block (spots_of c.args.pieces.now))) c.self.view_is
    (omega (arith, most, c.touch_all.ensures.spare))

pub returns-clause-spare : goal.returns-clause-spare
returns-clause-spare c =
    let most = missing_unused c.self.inside.tally (pairs_at c.self.inside.block (spots_of c.args.pieces.now)) in
    subst (λ (v : Uses). v.spare ≤ c.touch_all-3.new.tally.spare + unused (uses_counted v.counts) (pairs_at v.block (spots_of c.args.pieces.now))) c.self.view_is
    (omega (arith, most, c.touch_all-2.ensures.spare, c.touch_all-3.ensures.spare))
