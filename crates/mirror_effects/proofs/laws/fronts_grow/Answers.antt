use Rattle.mirror_effects.proofs.Growing.{same_after, same_kept, front_of, front_next, front_begin}
use Rattle.mirror_effects.proofs.laws.fronts_grow.Goals as goal

pub returns : goal.returns
returns c = record { same = same_after; kept = same_kept; shorter = front_of; next = front_next; begin = front_begin }
