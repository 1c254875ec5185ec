use Rattle.next_changes.proofs.Given.{given}
use Rattle.next_changes.proofs.laws.next_gives.Goals as goal

pub returns : goal.returns
returns c = given
