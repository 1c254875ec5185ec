use Rattle.std.proofs.Common.{◌∙◌, ap, sym, map, not, refl}
use Rattle.voice_model.specs.State.{is_row}
use Rattle.interest_table.specs.Inside.{row_in}
use Rattle.interest_table.proofs.Found.{others}
use Rattle.interest_table.proofs.Listed.{all_listed_stay}
use Rattle.interest_table.proofs.Told.{one_row_gone, still_table, rows_kept}
use Rattle.interest_table.proofs.rows.InterestTable.remove.Goals as goal

pub invariant_of-self : goal.invariant_of-self
invariant_of-self c =
    still_table c.self.inside.listing c.remove.new.self c.self.inside.tally c.self.inside.tally c.self.invariant
    (c.remove.ensures.entries ∙ all_listed_stay c.args.class c.args.key.now c.self.inside.listing.entries (sym c.in_default.ensures.value)) refl refl refl

pub invariant_of-self-2 : goal.invariant_of-self-2
invariant_of-self-2 c =
    one_row_gone c.self.inside.listing c.remove.new.self c.self.inside.tally c.lose.new.tally c.args.class c.args.key.now c.in-Some.row c.self.invariant c.remove.ensures.entries (sym c.in-Some.ensures.value) c.lose.ensures

pub returns-in_default-clause-rows : goal.returns-in_default-clause-rows
returns-in_default-clause-rows c =
    ap (map row_in) c.remove.ensures.entries ∙ rows_kept (λ row. not (is_row c.args.class c.args.key.now row)) c.self.inside.listing.entries ∙ ap (λ t. others c.args.class c.args.key.now t.rows) c.self.view_is

pub returns-clause-rows : goal.returns-clause-rows
returns-clause-rows c =
    ap (map row_in) c.remove.ensures.entries ∙ rows_kept (λ row. not (is_row c.args.class c.args.key.now row)) c.self.inside.listing.entries ∙ ap (λ t. others c.args.class c.args.key.now t.rows) c.self.view_is
