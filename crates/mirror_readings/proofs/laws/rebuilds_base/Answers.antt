use Rattle.mirror_readings.proofs.Replays.{switch}
use Rattle.mirror_readings.proofs.laws.rebuilds_base.Goals as goal

pub returns : goal.returns
returns c = record { switch = switch }
