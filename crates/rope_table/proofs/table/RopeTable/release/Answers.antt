use Rattle.std.proofs.Common.{◌++◌, ◌∷◌, sym, subst}
use Rattle.rope_table.specs.Table.{Table, Counts}
use Rattle.rope_table.proofs.Wholes.{counts_released}
use Rattle.rope_table.proofs.table.RopeTable.release.Goals as goal

pub returns-clause-counts : goal.returns-clause-counts
returns-clause-counts c = λ before after counted.
    counts_released c.self.inside.ropes c.self.inside.dues c.self.inside.counts c.lower.new.self before after c.args.passage.now c.lower.ensures.block c.lower.ensures.uses
    (subst (λ (t : Table). Counts t (before ++ c.args.passage.now ∷ after)) (sym c.self.view_is) counted)
