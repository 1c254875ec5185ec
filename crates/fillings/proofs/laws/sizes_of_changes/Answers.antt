use Rattle.fillings.proofs.Sizes.{edited_size, recorded_size}
use Rattle.fillings.proofs.FilesBelow.{below_next}
use Rattle.fillings.proofs.laws.sizes_of_changes.Goals as goal

pub returns : goal.returns
returns c = record { edited = edited_size; recorded = recorded_size; below = below_next }
