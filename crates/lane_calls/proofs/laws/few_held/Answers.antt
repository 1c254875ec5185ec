use Rattle.lane_calls.proofs.HeldAgain.{few_held}
use Rattle.lane_calls.proofs.laws.few_held.Goals as goal

pub returns : goal.returns
returns c = few_held
