use Rattle.journal_readings.proofs.Replays.{valid, finished_again, state}
use Rattle.journal_readings.proofs.laws.rebuilds_valid.Goals as goal

pub returns : goal.returns
returns c = record { valid = valid; finished_again = finished_again; state = state }
