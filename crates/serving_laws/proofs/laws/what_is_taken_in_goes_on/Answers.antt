use Rattle.serving_laws.proofs.TakenIn.{taken_in}
use Rattle.serving_laws.proofs.laws.what_is_taken_in_goes_on.Goals as goal

pub returns : goal.returns
returns c = record { taken_in = taken_in }
