use Rattle.std.proofs.Common.{◌∙◌, ap, map}
use Rattle.voice_model.specs.State.{row_at}
use Rattle.interest_table.specs.Inside.{row_of, row_in, stamp_of}
use Rattle.interest_table.proofs.Listed.{row_named}
use Rattle.interest_table.proofs.listing.Listing.find.Goals as goal

pub returns : goal.returns
returns c =
    c.find.ensures
    ∙ row_named (stamp_of c.self.inside.rows) (row_of c.self.inside.rows) c.self.inside.order.items c.self.inside.next c.self.invariant.listing c.args.class c.args.key.now
    ∙ ap (λ l. row_at (map row_in l.entries) c.args.class c.args.key.now) c.self.view_is
