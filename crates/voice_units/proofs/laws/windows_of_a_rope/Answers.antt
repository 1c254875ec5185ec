use Rattle.voice_units.proofs.Windows.{window_stretches, window_longest}
use Rattle.voice_units.proofs.Counts.{window_within}
use Rattle.voice_units.proofs.laws.windows_of_a_rope.Goals as goal

pub returns : goal.returns
returns c = record { few = window_stretches; longest = window_longest; within = window_within }
