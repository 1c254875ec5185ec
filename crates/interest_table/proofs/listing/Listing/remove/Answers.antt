use Rattle.std.proofs.Common.{◌≡◌, ◌∙◌, ap, sym, refl, map, filter, not, None, Some}
use Rattle.voice_model.specs.State.{is_row, row_at}
use Rattle.interest_table.specs.Inside.{row_of, row_in, entry_of, stamp_of, without, listed_of, IsListing, IsDated}
use Rattle.interest_table.proofs.Listed.{not_found, found_row, list_left, all_listed_stay, still_entries}
use Rattle.interest_table.proofs.Due.{dated_left, still_timed}
use Rattle.interest_table.proofs.Census.{listed_left}
use Rattle.interest_table.proofs.listing.Listing.remove.Goals as goal

pub invariant_of-self : goal.invariant_of-self
invariant_of-self c = still_timed c.self.inside.rows c.take.new.self c.self.inside.order.items c.self.inside.order.items c.self.inside.expiries.items c.self.inside.expiries.items c.self.inside.listed.items c.self.inside.listed.items c.self.inside.next c.in_default.ensures.same refl refl refl c.self.invariant

none_there : (c : goal.In_default) → row_at (map row_in (map (entry_of (row_of c.self.inside.rows)) c.self.inside.order.items)) c.args.class c.args.key.now ≡ None
none_there c = not_found (stamp_of c.self.inside.rows) (row_of c.self.inside.rows) c.self.inside.order.items c.self.inside.next c.self.invariant.listing c.args.class c.args.key.now (sym c.in_default.ensures.stamp)

pub returns-in_default-clause-value : goal.returns-in_default-clause-value
returns-in_default-clause-value c = sym (none_there c) ∙ ap (λ l. row_at (map row_in l.entries) c.args.class c.args.key.now) c.self.view_is

pub returns-in_default-clause-entries : goal.returns-in_default-clause-entries
returns-in_default-clause-entries c =
    still_entries c.self.inside.rows c.take.new.self c.self.inside.order.items c.self.inside.order.items c.in_default.ensures.same refl
    ∙ sym (all_listed_stay c.args.class c.args.key.now (map (entry_of (row_of c.self.inside.rows)) c.self.inside.order.items) (none_there c))
    ∙ ap (λ l. filter (λ e. not (is_row c.args.class c.args.key.now e.1)) l.entries) c.self.view_is

found : (c : goal.After-lose_listed) → stamp_of c.self.inside.rows c.args.class c.args.key.now ≡ Some c.in-Some.stamp
found c = sym c.in-Some.ensures.stamp

left : (c : goal.After-lose_listed) → c.take_stamp.new.order.items ≡ without c.in-Some.stamp c.self.inside.order.items
left c = c.take_stamp.ensures.items c.self.inside.next c.self.invariant.listing.rising (c.self.invariant.listing.known c.args.class c.args.key.now c.in-Some.stamp (found c)).0

gone : (c : goal.After-lose_listed) → IsListing (stamp_of c.take.new.self) (row_of c.take.new.self) c.take_stamp.new.order.items c.self.inside.next
    × (map (entry_of (row_of c.take.new.self)) c.take_stamp.new.order.items ≡ filter (λ e. not (is_row c.args.class c.args.key.now e.1)) (map (entry_of (row_of c.self.inside.rows)) c.self.inside.order.items))
gone c =
    list_left (stamp_of c.self.inside.rows) (stamp_of c.take.new.self) (row_of c.self.inside.rows) (row_of c.take.new.self) c.args.class c.args.key.now c.in-Some.stamp c.self.inside.order.items c.take_stamp.new.order.items c.self.inside.next c.self.invariant.listing
    (found c) c.in-Some.ensures.names c.in-Some.ensures.at (left c)

dated : (c : goal.After-lose_listed) → IsDated (row_of c.take.new.self) c.take_stamp.new.order.items c.lose_expiry.new.expiries.items
dated c =
    dated_left (row_of c.self.inside.rows) (row_of c.take.new.self) c.in-Some.row c.in-Some.stamp c.self.inside.order.items c.take_stamp.new.order.items c.self.inside.expiries.items c.lose_expiry.new.expiries.items
    c.lose_expiry.ensures.items c.self.invariant.dated (c.self.invariant.listing.known c.args.class c.args.key.now c.in-Some.stamp (found c)).0 c.in-Some.ensures.row c.in-Some.ensures.at (left c)

apart : (c : goal.After-lose_listed) → c.lose_listed.new.listed.items ≡ listed_of (row_of c.take.new.self) c.take_stamp.new.order.items
apart c =
    listed_left (row_of c.self.inside.rows) (row_of c.take.new.self) c.in-Some.row c.in-Some.stamp c.self.inside.next c.self.inside.order.items c.take_stamp.new.order.items c.self.inside.listed.items c.lose_listed.new.listed.items
    c.lose_listed.ensures.items c.self.invariant.listing.rising c.self.invariant.apart (c.self.invariant.listing.known c.args.class c.args.key.now c.in-Some.stamp (found c)).0 c.in-Some.ensures.row c.in-Some.ensures.at (left c)

pub invariant_of-self-2 : goal.invariant_of-self-2
invariant_of-self-2 c = record { listing = (gone c).0; dated = dated c; apart = apart c }

pub returns-clause-value : goal.returns-clause-value
returns-clause-value c =
    sym c.in-Some.ensures.row
    ∙ found_row (stamp_of c.self.inside.rows) (row_of c.self.inside.rows) c.self.inside.order.items c.self.inside.next c.self.invariant.listing c.args.class c.args.key.now c.in-Some.stamp (found c)
    ∙ ap (λ l. row_at (map row_in l.entries) c.args.class c.args.key.now) c.self.view_is

pub returns-clause-entries : goal.returns-clause-entries
returns-clause-entries c = (gone c).1 ∙ ap (λ l. filter (λ e. not (is_row c.args.class c.args.key.now e.1)) l.entries) c.self.view_is
