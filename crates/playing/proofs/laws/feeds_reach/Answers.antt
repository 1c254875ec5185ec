use Rattle.playing.proofs.Served.{fed_reaches, fed_faulted}
use Rattle.playing.proofs.laws.feeds_reach.Goals as goal

pub returns : goal.returns
returns c = record { reaches = fed_reaches; faulted = fed_faulted }
