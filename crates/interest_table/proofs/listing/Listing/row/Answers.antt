use Rattle.std.proofs.Common.{◌∙◌, ap, sym, map, slice_get}
use Rattle.interest_table.specs.Inside.{row_of, row_in}
use Rattle.interest_table.proofs.Listed.{placed}
use Rattle.interest_table.proofs.listing.Listing.row.Goals as goal

pub returns : goal.returns
returns c =
    let there = placed (row_of c.self.inside.rows) c.self.inside.order.items c.args.k c.in-Some.stamp.now (sym c.in-Some.ensures) in
    c.row.ensures ∙ (c.self.invariant.listing.stands c.in-Some.stamp.now there.0).0 ∙ sym there.1 ∙ ap (λ l. slice_get (map row_in l.entries) c.args.k) c.self.view_is
