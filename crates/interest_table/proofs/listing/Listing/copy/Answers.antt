use Rattle.std.proofs.Common.{◌∙◌, ap}
use Rattle.interest_table.proofs.Listed.{still_entries}
use Rattle.interest_table.proofs.Due.{still_timed}
use Rattle.interest_table.proofs.listing.Listing.copy.Goals as goal

pub invariant_of-result : goal.invariant_of-result
invariant_of-result c = still_timed c.self.inside.rows c.in_ok-rows.rows c.self.inside.order.items c.in_ok-order.order.items c.self.inside.expiries.items c.in_ok-expiries.expiries.items c.self.inside.listed.items c.in_ok-listed.listed.items c.self.inside.next c.in_ok-rows.ensures c.in_ok-order.ensures c.in_ok-expiries.ensures c.in_ok-listed.ensures c.self.invariant

pub returns : goal.returns
returns c = still_entries c.self.inside.rows c.in_ok-rows.rows c.self.inside.order.items c.in_ok-order.order.items c.in_ok-rows.ensures c.in_ok-order.ensures ∙ ap (λ l. l.entries) c.self.view_is
