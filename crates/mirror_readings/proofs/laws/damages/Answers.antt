use Rattle.mirror_readings.proofs.Openings.{journal_place, first_version, numbered_all, numbered_bad}
use Rattle.mirror_readings.proofs.laws.damages.Goals as goal

pub returns : goal.returns
returns c = record { journal_place = journal_place; first_version = first_version; numbered_all = numbered_all; numbered_bad = numbered_bad }
