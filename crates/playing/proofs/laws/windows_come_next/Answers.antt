use Rattle.std.proofs.Common.{◌+◌}
use Rattle.voice_units.specs.Spots.{spots_of}
use Rattle.playing.proofs.Samples.{window_spots}
use Rattle.playing.proofs.laws.windows_come_next.Goals as goal

pub returns : goal.returns
returns c = record { places = λ block more job jobs. window_spots block (job.heard + more) (spots_of job.passage) }
