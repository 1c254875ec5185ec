use Rattle.mirror_readings.proofs.Replays.{append}
use Rattle.mirror_readings.proofs.laws.rebuilds_more.Goals as goal

pub returns : goal.returns
returns c = record { append = append }
