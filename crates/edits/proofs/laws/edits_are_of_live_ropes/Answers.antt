use Rattle.edits.proofs.UsedBlocks.{of_live_ropes}
use Rattle.edits.proofs.laws.edits_are_of_live_ropes.Goals as goal

pub returns : goal.returns
returns c = of_live_ropes
