use Rattle.std.proofs.Common.{◌∙◌, sym}
use Rattle.interest_table.proofs.Census.{other_delisted}
use Rattle.interest_table.proofs.stamps.lose_listed.Goals as goal

pub returns-else-is_listed-clause-items : goal.returns-else-is_listed-clause-items
returns-else-is_listed-clause-items c = other_delisted c.args.row.now c.args.stamp c.args.listed.now.items (sym c.is_listed.ensures ∙ c.if-is_listed.false)
