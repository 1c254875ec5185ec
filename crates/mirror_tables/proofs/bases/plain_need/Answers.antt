use Rattle.std.proofs.Common.{◌∙◌}
use Rattle.mirror_tables.proofs.Sized.{plain_is}
use Rattle.mirror_tables.proofs.bases.plain_need.Goals as goal

pub returns-clause-base : goal.returns-clause-base
returns-clause-base c = λ b shows. c.plain_count.ensures ∙ plain_is c.args.parts.now b shows
