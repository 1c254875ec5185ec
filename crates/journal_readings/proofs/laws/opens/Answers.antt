use Rattle.journal_readings.proofs.Openings.{opens, recovers}
use Rattle.journal_readings.proofs.laws.opens.Goals as goal

pub returns : goal.returns
returns c = record { opened = opens; recovers = recovers }
