use Rattle.journal_readings.proofs.Openings.{journal_place, numbered_all, numbered_bad}
use Rattle.journal_readings.proofs.laws.damages.Goals as goal

pub returns : goal.returns
returns c = record { journal_place = journal_place; numbered_all = numbered_all; numbered_bad = numbered_bad }
