use Rattle.change_codec.proofs.Answers.{is_taken, is_found}
use Rattle.change_codec.proofs.CompleteKinds.{refused_is_none}
use Rattle.change_codec.proofs.laws.places_are_exact.Goals as goal

pub returns : goal.returns
returns c = record { taken = is_taken; none = refused_is_none; found = is_found }
