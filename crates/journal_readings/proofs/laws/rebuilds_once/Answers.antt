use Rattle.journal_readings.proofs.Replays.{once}
use Rattle.journal_readings.proofs.laws.rebuilds_once.Goals as goal

pub returns : goal.returns
returns c = record { once = once }
