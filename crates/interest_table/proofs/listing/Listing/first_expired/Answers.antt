use Rattle.std.proofs.Common.{◌≡◌, map, filter, not, subst, true, Some}
use Rattle.voice_model.specs.State.{row_at}
use Rattle.voice_model.specs.Changes.{is_expired}
use Rattle.interest_table.specs.Inside.{row_of, row_in, stamp_of}
use Rattle.interest_table.proofs.Due.{first_row, first_there, none_first_row}
use Rattle.interest_table.proofs.listing.Listing.first_expired.Goals as goal

pub returns-in_default-clause-none : goal.returns-in_default-clause-none
returns-in_default-clause-none c =
    subst (λ l. filter (λ e. not (is_expired c.args.now e.1)) l.entries ≡ l.entries) c.self.view_is
    (none_first_row (stamp_of c.self.inside.rows) (row_of c.self.inside.rows) c.self.inside.order.items c.self.inside.expiries.items c.self.inside.listed.items c.self.inside.next c.args.now c.first_due.ensures.moment c.self.invariant c.in_default.ensures.none)

pub returns-in_default-row-clause-none : goal.returns-in_default-row-clause-none
returns-in_default-row-clause-none c =
    first_there (stamp_of c.self.inside.rows) (row_of c.self.inside.rows) c.self.inside.order.items c.self.inside.expiries.items c.self.inside.listed.items c.self.inside.next c.args.now c.in-Some.stamp _ c.self.invariant c.in-Some.ensures.some c.in_default-row.ensures

pub returns-clause-some : goal.returns-clause-some
returns-clause-some c =
    subst (λ l. (is_expired c.args.now c.in-Some-row.row.now ≡ true) × (row_at (map row_in l.entries) c.in-Some-row.row.now.class c.in-Some-row.row.now.key ≡ Some c.in-Some-row.row.now)) c.self.view_is
    (first_row (stamp_of c.self.inside.rows) (row_of c.self.inside.rows) c.self.inside.order.items c.self.inside.expiries.items c.self.inside.listed.items c.self.inside.next c.args.now c.in-Some.stamp c.in-Some-row.row.now c.self.invariant c.in-Some.ensures.some c.in-Some-row.ensures)
