use Rattle.playing.proofs.Served.{fed_stopped, fed_ended, fed_window}
use Rattle.playing.proofs.laws.feeds_are_served.Goals as goal

pub returns : goal.returns
returns c = record { stopped = fed_stopped; ended = fed_ended; window = fed_window }
