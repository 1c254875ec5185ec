use Rattle.std.proofs.Common.{◌∙◌}
use Rattle.mirror_tables.proofs.Sized.{numbered_is, numbered_kept}
use Rattle.mirror_tables.proofs.bases.numbered_need.Goals as goal

pub returns-clause-base : goal.returns-clause-base
returns-clause-base c = λ b n shows. c.numbered_count.ensures ∙ numbered_is c.args.parts.now b n shows

pub returns-clause-kept : goal.returns-clause-kept
returns-clause-kept c = λ b shows. c.numbered_count.ensures ∙ numbered_kept c.args.parts.now b shows
