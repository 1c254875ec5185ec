use Rattle.std.proofs.Common.{◌≡◌, ◌≤◌, sym, subst, arith, true}
use Rattle.voice_units.specs.Spots.{spots_of}
use Rattle.voice_units.specs.Blocks.{BlockPair, pairs_at, has_pair}
use Rattle.rope_table.specs.Table.{Table, uses_counted, uses_at}
use Rattle.rope_table.proofs.Wholes.{none_unused, live_within}
use Rattle.rope_table.proofs.table.RopeTable.hold.Goals as goal

pub raise-requires-clause-live_fits : goal.raise-requires-clause-live_fits
raise-requires-clause-live_fits c = λ q. live_within c.self.inside.ropes c.self.inside.dues c.self.inside.counts q c.self.invariant

pub raise-requires-clause-room : goal.raise-requires-clause-room
raise-requires-clause-room c =
    let none = none_unused (uses_counted c.self.inside.counts.counts) (pairs_at c.self.inside.counts.block (spots_of c.args.passage.now))
    (subst (λ (t : Table). (q : BlockPair) → has_pair (pairs_at t.block (spots_of c.args.passage.now)) q ≡ true → 1 ≤ uses_at t q) (sym c.self.view_is) c.requires.used) in
    omega (arith, none)

pub returns-clause-spare_pairs : goal.returns-clause-spare_pairs
returns-clause-spare_pairs c =
    let none = none_unused (uses_counted c.self.inside.counts.counts) (pairs_at c.self.inside.counts.block (spots_of c.args.passage.now))
    (subst (λ (t : Table). (q : BlockPair) → has_pair (pairs_at t.block (spots_of c.args.passage.now)) q ≡ true → 1 ≤ uses_at t q) (sym c.self.view_is) c.requires.used) in
    subst (λ (t : Table). t.spare_pairs ≤ c.raise.new.self.spare) c.self.view_is (omega (arith, none, c.raise.ensures.spare))
