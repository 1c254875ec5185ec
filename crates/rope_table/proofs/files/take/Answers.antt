use Rattle.rope_table.proofs.Filings.{filed_taken}
use Rattle.rope_table.proofs.files.take.Goals as goal

pub returns-clause-live : goal.returns-clause-live
returns-clause-live c = filed_taken c.args.file c.args.files.now.entries c.remove-taken.new.self.entries c.remove-taken.result c.remove-taken.ensures.entries c.remove-taken.ensures.value
