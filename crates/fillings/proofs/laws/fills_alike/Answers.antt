use Rattle.fillings.proofs.Images.{filled_behind, filled_placed, same_free, same_before, same_next}
use Rattle.fillings.proofs.laws.fills_alike.Goals as goal

pub returns : goal.returns
returns c = record { areas = filled_behind; blocks = filled_placed; free = same_free; before = same_before; next = same_next }
