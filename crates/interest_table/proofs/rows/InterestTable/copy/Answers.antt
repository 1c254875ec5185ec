use Rattle.std.proofs.Common.{ap, ◌∙◌, map}
use Rattle.interest_table.specs.Inside.{row_in}
use Rattle.interest_table.proofs.Told.{still_table}
use Rattle.interest_table.proofs.rows.InterestTable.copy.Goals as goal

pub invariant_of-result : goal.invariant_of-result
invariant_of-result c = still_table c.self.inside.listing c.in_ok-listing.listing c.self.inside.tally c.in_ok-tally.tally c.self.invariant c.in_ok-listing.ensures c.in_ok-tally.ensures.counts c.in_ok-tally.ensures.bytes.0 c.in_ok-tally.ensures.bytes.1

pub returns : goal.returns
returns c = ap (map row_in) c.in_ok-listing.ensures ∙ ap (λ t. t.rows) c.self.view_is
