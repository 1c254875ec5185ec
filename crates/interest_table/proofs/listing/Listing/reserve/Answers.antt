use Rattle.std.proofs.Common.{refl}
use Rattle.interest_table.proofs.Due.{still_timed}
use Rattle.interest_table.proofs.listing.Listing.reserve.Goals as goal

pub invariant_of-self : goal.invariant_of-self
invariant_of-self c = still_timed c.self.inside.rows c.reserve.new.self c.self.inside.order.items c.self.inside.order.items c.self.inside.expiries.items c.self.inside.expiries.items c.self.inside.listed.items c.self.inside.listed.items c.self.inside.next c.reserve.ensures.same refl refl refl c.self.invariant

pub invariant_of-self-in_err-reserve-2 : goal.invariant_of-self-in_err-reserve-2
invariant_of-self-in_err-reserve-2 c = still_timed c.self.inside.rows c.reserve.new.self c.self.inside.order.items c.reserve-2.new.self.items c.self.inside.expiries.items c.self.inside.expiries.items c.self.inside.listed.items c.self.inside.listed.items c.self.inside.next c.reserve.ensures.same c.reserve-2.ensures.items refl refl c.self.invariant

pub invariant_of-self-in_err-reserve-3 : goal.invariant_of-self-in_err-reserve-3
invariant_of-self-in_err-reserve-3 c = still_timed c.self.inside.rows c.reserve.new.self c.self.inside.order.items c.reserve-2.new.self.items c.self.inside.expiries.items c.reserve-3.new.self.items c.self.inside.listed.items c.self.inside.listed.items c.self.inside.next c.reserve.ensures.same c.reserve-2.ensures.items c.reserve-3.ensures.items refl c.self.invariant

pub invariant_of-self-in_err-reserve-4 : goal.invariant_of-self-in_err-reserve-4
invariant_of-self-in_err-reserve-4 c = still_timed c.self.inside.rows c.reserve.new.self c.self.inside.order.items c.reserve-2.new.self.items c.self.inside.expiries.items c.reserve-3.new.self.items c.self.inside.listed.items c.reserve-4.new.self.items c.self.inside.next c.reserve.ensures.same c.reserve-2.ensures.items c.reserve-3.ensures.items c.reserve-4.ensures.items c.self.invariant

pub invariant_of-self-2 : goal.invariant_of-self-2
invariant_of-self-2 c = still_timed c.self.inside.rows c.reserve.new.self c.self.inside.order.items c.reserve-2.new.self.items c.self.inside.expiries.items c.reserve-3.new.self.items c.self.inside.listed.items c.reserve-4.new.self.items c.self.inside.next c.reserve.ensures.same c.reserve-2.ensures.items c.reserve-3.ensures.items c.reserve-4.ensures.items c.self.invariant
