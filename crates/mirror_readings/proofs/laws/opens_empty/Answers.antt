use Rattle.mirror_readings.proofs.Openings.{opens_empty}
use Rattle.mirror_readings.proofs.laws.opens_empty.Goals as goal

pub returns : goal.returns
returns c = record { empty = opens_empty }
