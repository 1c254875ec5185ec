use Rattle.mirror_readings.proofs.Replays.{once}
use Rattle.mirror_readings.proofs.laws.rebuilds_once.Goals as goal

pub returns : goal.returns
returns c = record { once = once }
