use Rattle.std.proofs.Common.{◌≡◌, ◌∙◌, ◌+◌, ◌++◌, ◌∷◌, [], ap, map, refl, arith}
use Rattle.voice_model.specs.State.{row_at}
use Rattle.interest_table.specs.Inside.{row_of, row_in, entry_of, stamp_of, IsListing}
use Rattle.interest_table.proofs.Listed.{list_longer, no_stamp, next_unused}
use Rattle.interest_table.proofs.Due.{dated_longer}
use Rattle.interest_table.proofs.Census.{listed_longer}
use Rattle.interest_table.proofs.listing.Listing.put.Goals as goal

longer : (c : goal.After-self-1) → IsListing (stamp_of c.put.new.self) (row_of c.put.new.self) c.put_stamp.new.order.items (c.self.inside.next + 1)
    × (map (entry_of (row_of c.put.new.self)) c.put_stamp.new.order.items ≡ map (entry_of (row_of c.self.inside.rows)) c.self.inside.order.items ++ (c.self.inside.next, c.args.row) ∷ [])
longer c =
    let spare = ap (λ l. l.spare) c.self.view_is in
    list_longer (stamp_of c.self.inside.rows) (stamp_of c.put.new.self) (row_of c.self.inside.rows) (row_of c.put.new.self) c.args.row c.self.inside.order.items c.put_stamp.new.order.items c.self.inside.next (c.self.inside.next + 1) c.self.invariant.listing
    (ap (λ l. row_at (map row_in l.entries) c.args.row.class c.args.row.key) c.self.view_is ∙ c.requires.fresh)
    (omega (arith, spare, c.requires.room)) c.put.ensures.names c.put.ensures.at c.put_stamp.ensures.items refl

pub put-requires-clause-fresh : goal.put-requires-clause-fresh
put-requires-clause-fresh c =
    no_stamp (stamp_of c.self.inside.rows) (row_of c.self.inside.rows) c.self.inside.order.items c.self.inside.next c.self.invariant.listing c.args.row.class c.args.row.key
    (ap (λ l. row_at (map row_in l.entries) c.args.row.class c.args.row.key) c.self.view_is ∙ c.requires.fresh)

pub put-requires-clause-unused : goal.put-requires-clause-unused
put-requires-clause-unused c = next_unused (stamp_of c.self.inside.rows) (row_of c.self.inside.rows) c.self.inside.order.items c.self.inside.next c.self.invariant.listing

pub invariant_of-self : goal.invariant_of-self
invariant_of-self c = record {
  listing = (longer c).0;
  dated = dated_longer (row_of c.self.inside.rows) (row_of c.put.new.self) c.args.row c.self.inside.next c.self.inside.order.items c.put_stamp.new.order.items c.self.inside.expiries.items c.gain_expiry.new.expiries.items
      c.gain_expiry.ensures.items c.self.invariant.listing.rising c.self.invariant.dated c.put.ensures.at c.put_stamp.ensures.items;
  apart = listed_longer (row_of c.self.inside.rows) (row_of c.put.new.self) c.args.row c.self.inside.next c.self.inside.order.items c.put_stamp.new.order.items c.self.inside.listed.items c.gain_listed.new.listed.items
      c.self.invariant.listing.rising c.self.invariant.apart c.put.ensures.at c.put_stamp.ensures.items c.gain_listed.ensures.items;
}

pub returns-clause-entries : goal.returns-clause-entries
returns-clause-entries c = (longer c).1 ∙ ap (λ l. l.entries ++ (l.next, c.args.row) ∷ []) c.self.view_is
