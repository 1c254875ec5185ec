use Rattle.std.proofs.Common.{arith, ◌≡◌, ◌+◌}
use Rattle.frame_pool.specs.Words.{hint_word}
use Rattle.frame_pool.proofs.LaneStates.{hints, hint_told}
use Rattle.frame_pool.proofs.steps.store_hint.Goals as goal

pub store-requires : goal.store-requires
store-requires c =
    let r = c.requires in
    let at : c.args.lane + c.args.sizes.lanes + 1 ≡ hint_word c.args.sizes.lanes c.args.lane = omega arith in
    (r.seat.0, omega (arith, r.seat.1), hints c.args.sizes _ _ r.view _ _ c.args.lane c.args.new at r.lane r.bit)

pub returns-clause-view : goal.returns-clause-view
returns-clause-view c =
    let at : c.args.lane + c.args.sizes.lanes + 1 ≡ hint_word c.args.sizes.lanes c.args.lane = omega arith in
    hint_told c.args.sizes _ _ _ c.requires.view c.args.steps.now.table_id.slots _ c.args.lane c.args.new at c.store.ensures.2
