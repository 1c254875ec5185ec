use Rattle.mirror_effects.proofs.Taken.{body_taken}
use Rattle.mirror_effects.proofs.laws.may_be_taken.Goals as goal

pub returns : goal.returns
returns c = record { taken = body_taken }
