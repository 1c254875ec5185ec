use Rattle.std.proofs.Common.{[], ◌∷◌, ◌++◌, ◌∙◌, ap}
use Rattle.counted_row.proofs.Flat.{last-empty}
use Rattle.counted_row.proofs.steps.open_last.Goals as goal

pub returns-clause-stock : goal.returns-clause-stock
returns-clause-stock g c = c.in-Some.ensures.items ∙ ap (λ x. c.pop.new.self.items ++ x ∷ []) (last-empty _ _ _ c.requires.empty c.in-Some.ensures.items).1

pub returns-clause-empty : goal.returns-clause-empty
returns-clause-empty g c = (last-empty _ _ _ c.requires.empty c.in-Some.ensures.items).0

pub returns-clause-chunks : goal.returns-clause-chunks
returns-clause-chunks g c = c.put_behind.ensures.chunks ∙ ap (λ x. c.args.chunks.now.items ++ x ∷ []) (last-empty _ _ _ c.requires.empty c.in-Some.ensures.items).1
