use Rattle.voice_model.proofs.Tagged.{pieces-append, pieces-slice}
use Rattle.voice_model.proofs.PiecesReplaced.{pieces-replaced}
use Rattle.voice_model.specs.Samples.{spots_in_rope}
use Rattle.voice_units.proofs.PiecesOfRopes.{same_pieces}
use Rattle.voice_model.proofs.laws.pieces_of_edits.Goals as goal

pub returns : goal.returns
returns c = record { same = λ xs ps. same_pieces ps (spots_in_rope xs); joined = pieces-append; sliced = pieces-slice; replaced_by = pieces-replaced }
