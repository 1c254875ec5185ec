use Rattle.std.proofs.Common.{◌∙◌, sym, ap, map, filter}
use Rattle.std.proofs.lemmas.Result.{IfOk-weaker}
use Rattle.voice_model.specs.Changes.{is_expired}
use Rattle.interest_table.specs.Inside.{row_of}
use Rattle.interest_table.proofs.Due.{expired_stamps, kept_stamps}
use Rattle.interest_table.proofs.listing.Listing.expired.Goals as goal

pub returns : goal.returns
returns c = IfOk-weaker c.due_stamps.result _ _
    (λ stamps found.
    expired_stamps c.args.now (row_of c.self.inside.rows) c.self.inside.order.items c.self.inside.expiries.items c.self.inside.next stamps.items c.due_stamps.ensures.moment c.self.invariant.listing.limit c.self.invariant.listing.rising c.self.invariant.dated found.rising (found.same c.self.invariant.dated.ordered)
    ∙ sym (kept_stamps c.args.now (row_of c.self.inside.rows) c.self.inside.order.items)
    ∙ ap (λ l. map (λ e. e.0) (filter (λ e. is_expired c.args.now e.1) l.entries)) c.self.view_is)
    c.due_stamps.ensures.stamps
