use Rattle.fillings.proofs.Acted.{plain_filled}
use Rattle.fillings.proofs.Edits.{joined_again, sliced_again, replaced_again, call_again}
use Rattle.fillings.proofs.Recordings.{recorded_filled}
use Rattle.fillings.proofs.laws.brings.Goals as goal

pub returns : goal.returns
returns c = record { plain = plain_filled; joined = joined_again; sliced = sliced_again; replaced_by = replaced_again; of_call = call_again; recorded = recorded_filled }
