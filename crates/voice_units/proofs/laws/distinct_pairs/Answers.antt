use Rattle.voice_units.proofs.Distinct.{has_pair-distinct, same_count}
use Rattle.voice_units.proofs.laws.distinct_pairs.Goals as goal

pub returns : goal.returns
returns c = record { kept = has_pair-distinct; count = same_count }
