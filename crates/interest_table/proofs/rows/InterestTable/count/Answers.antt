use Rattle.std.proofs.Common.{ap, ◌∙◌}
use Rattle.interest_table.specs.Table.{rows_of}
use Rattle.interest_table.proofs.rows.InterestTable.count.Goals as goal

pub returns : goal.returns
returns c = c.count_of.ensures ∙ c.self.invariant.told.counts c.args.rope ∙ ap (λ t. rows_of c.args.rope t.rows) c.self.view_is
