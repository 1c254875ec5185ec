use Rattle.mirror_readings.proofs.Openings.{opens, opened, second, newest}
use Rattle.mirror_readings.proofs.laws.opens.Goals as goal

pub returns : goal.returns
returns c = record { reads = opens; opened = opened; second = second; newest = newest }
