use Rattle.interest_table.specs.Inside.{row_of}
use Rattle.interest_table.proofs.Due.{kept_at}
use Rattle.interest_table.proofs.gather.keys_under.Goals as goal

pub loop-stamp-preserved-in_default : goal.loop-stamp-preserved-in_default
loop-stamp-preserved-in_default c = λ h.
    let there = kept_at (row_of c.args.rows.now) c.args.stamps.now c.loop-stamp.stamp-index 0 h c.loop-stamp-test.true in
    let none = c.in_default.ensures in
    cc
