use Rattle.made_scripts.proofs.laws.made_is_read.Goals as goal
use Rattle.made_scripts.proofs.Reading as reading

pub returns : goal.returns
returns c = reading.made_is_read
