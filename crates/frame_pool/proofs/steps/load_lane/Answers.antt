use Rattle.std.proofs.Common.{arith, ◌≡◌, ◌+◌}
use Rattle.frame_pool.specs.Words.{lane_word}
use Rattle.frame_pool.proofs.LaneStates.{looks, look_told}
use Rattle.frame_pool.proofs.steps.load_lane.Goals as goal

pub load-requires : goal.load-requires
load-requires c =
    let r = c.requires in
    let at : c.args.lane + 1 ≡ lane_word c.args.lane = omega arith in
    (r.seat.0, omega (arith, r.seat.1), looks c.args.sizes _ _ r.view _ _ c.args.lane at r.lane)

pub returns-clause-view : goal.returns-clause-view
returns-clause-view c =
    let at : c.args.lane + 1 ≡ lane_word c.args.lane = omega arith in
    look_told c.args.sizes _ _ _ c.requires.view c.args.steps.now.table_id.slots _ c.args.lane _ at c.load.ensures.2
