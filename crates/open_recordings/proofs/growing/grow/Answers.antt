use Rattle.std.proofs.Common.{refl, sym, ◌∙◌, ap, subst, arith}
use Rattle.voice_blocks.specs.Holders.{next_index}
use Rattle.voice_blocks.specs.declared.owner.Owner.TheVariants.{Taking}
use Rattle.running_tables.specs.Running.{taken}
use Rattle.next_ropes.specs.Lowest.{lowest_open}
use Rattle.open_recordings.specs.Blocks.{AreAddresses}
use Rattle.open_recordings.proofs.Counted.{index_taken, taken_few}
use Rattle.open_recordings.proofs.Grows.{found_count, taken_more, more_listed, more_runs, more_hands, more_stays}
use Rattle.open_recordings.proofs.growing.grow.Goals as goal

pub take-taken-requires-clause-fits : goal.take-taken-requires-clause-fits
take-taken-requires-clause-fits c =
    let by = c.requires.parts in
    let next = ap (next_index (Taking c.args.lane)) c.reserve.ensures.holders ∙ index_taken c.args.parts.now.blocks.holders _ _ by.2 by.4.given c.args.lane in
    let few = taken_few by.0 by.1 by.2 c.args.parts.now by.3 c.args.lane by.4 in
    let free = c.requires.free in
    omega (arith, next, few, free)

pub addresses_of-requires-clause-fits : goal.addresses_of-requires-clause-fits
addresses_of-requires-clause-fits c =
    let by = c.requires.parts in
    let found = found_count by.0 by.1 by.2 c.args.parts.now by.3 c.args.lane c.blocks_taken-from.result c.reserve.new.self.holders by.4 c.reserve.ensures.holders c.blocks_taken-from.ensures in
    let few = taken_few by.0 by.1 by.2 c.args.parts.now by.3 c.args.lane by.4 in
    let free = c.requires.free in
    omega (arith, found, few, free)

pub returns-clause-grown : goal.returns-clause-grown
returns-clause-grown c = λ held pledged takings more b runs grows.
    let old = c.args.parts.now in
    let room = c.reserve.new.self.holders in
    let new = c.take-taken.new.self in
    let is = taken_more held pledged takings old b c.args.lane c.args.n c.take-taken.result room new.holders runs c.requires.free c.reserve.ensures.holders c.take-taken.ensures.exact c.take-taken.ensures.holders in
    more_runs held pledged takings old b c.args.lane c.args.n new.holders is more (record old { blocks = new }) runs.kept refl refl grows

pub returns-clause-lowest : goal.returns-clause-lowest
returns-clause-lowest c =
    let old = c.args.parts.now in
    let by = c.requires.parts in
    let room = c.reserve.new.self.holders in
    let new = c.take-taken.new.self in
    let addresses = lowest_open c.args.n old.blocks.holders in
    let found = found_count by.0 by.1 by.2 old by.3 c.args.lane c.blocks_taken-from.result room by.4 c.reserve.ensures.holders c.blocks_taken-from.ensures in
    let is = taken_more by.0 by.1 by.2 old by.3 c.args.lane c.args.n c.take-taken.result room new.holders by.4 c.requires.free c.reserve.ensures.holders c.take-taken.ensures.exact c.take-taken.ensures.holders in
    c.addresses_of.ensures addresses (subst (λ i. AreAddresses new.holders (Taking c.args.lane) i c.args.n addresses) (sym found) (more_listed by.0 by.1 by.2 old by.3 c.args.lane c.args.n new.holders is))

pub returns-clause-own : goal.returns-clause-own
returns-clause-own c = λ held pledged takings b runs.
    let old = c.args.parts.now in
    let room = c.reserve.new.self.holders in
    let new = c.take-taken.new.self in
    let is = taken_more held pledged takings old b c.args.lane c.args.n c.take-taken.result room new.holders runs c.requires.free c.reserve.ensures.holders c.take-taken.ensures.exact c.take-taken.ensures.holders in
    subst (AreAddresses new.holders (Taking c.args.lane) (taken takings c.args.lane) c.args.n) (sym (returns-clause-lowest c)) (more_listed held pledged takings old b c.args.lane c.args.n new.holders is)

pub returns-clause-hands : goal.returns-clause-hands
returns-clause-hands c =
    let old = c.args.parts.now in
    let by = c.requires.parts in
    let room = c.reserve.new.self.holders in
    let new = c.take-taken.new.self in
    let is = taken_more by.0 by.1 by.2 old by.3 c.args.lane c.args.n c.take-taken.result room new.holders by.4 c.requires.free c.reserve.ensures.holders c.take-taken.ensures.exact c.take-taken.ensures.holders in
    more_hands by.0 by.1 by.2 old by.3 c.args.lane c.args.n new.holders is

pub returns-clause-stays : goal.returns-clause-stays
returns-clause-stays c =
    let old = c.args.parts.now in
    let by = c.requires.parts in
    let room = c.reserve.new.self.holders in
    let new = c.take-taken.new.self in
    let is = taken_more by.0 by.1 by.2 old by.3 c.args.lane c.args.n c.take-taken.result room new.holders by.4 c.requires.free c.reserve.ensures.holders c.take-taken.ensures.exact c.take-taken.ensures.holders in
    more_stays by.0 by.1 by.2 old by.3 c.args.lane c.args.n new.holders is
