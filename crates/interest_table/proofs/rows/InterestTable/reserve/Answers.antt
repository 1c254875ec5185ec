use Rattle.std.proofs.Common.{refl}
use Rattle.interest_table.proofs.Told.{still_table}
use Rattle.interest_table.proofs.rows.InterestTable.reserve.Goals as goal

pub invariant_of-self-2 : goal.invariant_of-self-2
invariant_of-self-2 c =
    still_table c.self.inside.listing c.reserve.new.self c.self.inside.tally _ c.self.invariant c.in_ok-reserve.ensures.entries c.in_ok-reserve-2.ensures.entries refl refl
