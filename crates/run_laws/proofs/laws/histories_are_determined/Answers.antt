use Rattle.run_laws.proofs.Finished.{histories_are_determined}
use Rattle.run_laws.proofs.laws.histories_are_determined.Goals as goal

pub returns : goal.returns
returns c = histories_are_determined
