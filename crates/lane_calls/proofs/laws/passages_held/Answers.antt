use Rattle.lane_calls.proofs.HeldAgain.{passages_held}
use Rattle.lane_calls.proofs.laws.passages_held.Goals as goal

pub returns : goal.returns
returns c = passages_held
