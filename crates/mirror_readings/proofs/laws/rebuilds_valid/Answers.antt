use Rattle.mirror_readings.proofs.Replays.{valid, finished_again, state, position}
use Rattle.mirror_readings.proofs.laws.rebuilds_valid.Goals as goal

pub returns : goal.returns
returns c = record { valid = valid; finished_again = finished_again; state = state; position = position }
