use Rattle.edits.proofs.Refusals.{journal_last}
use Rattle.edits.proofs.laws.journal_is_asked_last.Goals as goal

pub returns : goal.returns
returns c = journal_last
