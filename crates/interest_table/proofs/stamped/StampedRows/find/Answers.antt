use Rattle.std.proofs.Common.{◌≡◌, ◌∙◌, ap, sym, Some}
use Rattle.interest_table.specs.Inside.{stamp_at, stamp_of, row_of, row_under, row_found}
use Rattle.interest_table.proofs.Placed.{stamp_found, found_at}
use Rattle.interest_table.proofs.stamped.StampedRows.find.Goals as goal

pub returns : goal.returns
returns c =
    let rows = c.self.inside.rows.entries in
    let places = c.self.inside.places.entries in
    let there : stamp_at rows c.args.class c.args.key.now ≡ Some c.in-Some.field-0-2.now = sym (stamp_found rows c.sought.result c.args.class c.args.key.now c.sought.ensures.class c.sought.ensures.key) ∙ sym c.in-Some.ensures.value in
    sym (found_at rows places c.in-Some.field-0-0 c.in-Some.field-0-2.now c.in-Some.named.now c.self.invariant c.in-Some.ensures.entry)
    ∙ ap (row_found (row_under rows places)) (sym there)
    ∙ ap (λ s. row_found (row_of s) (stamp_of s c.args.class c.args.key.now)) c.self.view_is
