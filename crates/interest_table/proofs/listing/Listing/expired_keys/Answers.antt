use Rattle.std.proofs.Common.{◌∙◌, ◌≡◌, sym, ap, map, filter, subst}
use Rattle.std.proofs.lemmas.Result.{IfOk-weaker}
use Rattle.voice_model.specs.Changes.{is_expired}
use Rattle.interest_table.specs.Table.{expired_keys}
use Rattle.interest_table.specs.Inside.{row_of, kept, row_in, AllKept}
use Rattle.interest_table.proofs.Due.{expires, kept_stamps, all_kept, fields_kept}
use Rattle.interest_table.proofs.listing.Listing.expired_keys.Goals as goal

pub returns : goal.returns
returns c =
    let at = row_of c.self.inside.rows in
    let ts = c.self.inside.order.items in
    let found : c.deref.result.now ≡ filter (expires c.args.now at) ts = c.deref.ensures.value ∙ c.in_ok-stamps.ensures ∙ sym (ap (λ l. map (λ e. e.0) (filter (λ e. is_expired c.args.now e.1) l.entries)) c.self.view_is) ∙ kept_stamps c.args.now at ts in
    IfOk-weaker c.keys_under.result _ _
    (λ all is.
    is (subst (AllKept at) (sym found) (all_kept (expires c.args.now at) at ts (λ s k. (c.self.invariant.listing.stands s k).0)))
    ∙ ap (map (λ s. (kept at s).key)) found
    ∙ fields_kept (λ row. row.key) c.args.now at ts
    ∙ ap (λ l. expired_keys c.args.now (map row_in l.entries)) c.self.view_is)
    c.keys_under.ensures
