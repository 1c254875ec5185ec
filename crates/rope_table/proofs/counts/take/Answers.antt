use Rattle.rope_table.specs.Table.{name_eq}
use Rattle.rope_table.proofs.Lives.{same_name}
use Rattle.rope_table.proofs.Sums.{sum_taken}
use Rattle.rope_table.proofs.counts.take.Goals as goal

pub returns-clause-sums : goal.returns-clause-sums
returns-clause-sums c = λ weigh. sum_taken name_eq same_name weigh c.args.name.now c.args.counts.now.entries c.remove.new.self.entries c.remove.result c.remove.ensures.entries c.remove.ensures.value
