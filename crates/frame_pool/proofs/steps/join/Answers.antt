use Rattle.std.proofs.Common.{arith, ap}
use Rattle.frame_pool.specs.Steps.{Seated}
use Rattle.frame_pool.proofs.Passing.{joins, join_told}
use Rattle.frame_pool.proofs.steps.join.Goals as goal

pub join_seat-requires : goal.join_seat-requires
join_seat-requires c =
    let r = c.requires in
    (r.seat.0, r.seat.2, ap (λ (x : Seated). x.1) r.lease.me, omega (arith, r.seat.1), joins c.args.sizes _ _ _ _ r.view r.lease r.over)

pub returns-clause-view : goal.returns-clause-view
returns-clause-view c = join_told c.args.sizes _ _ _ _ c.requires.view c.requires.lease c.join_seat.ensures.2
