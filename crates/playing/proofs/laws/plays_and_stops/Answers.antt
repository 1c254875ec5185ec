use Rattle.playing.proofs.Served.{plays, stops, newly}
use Rattle.playing.proofs.laws.plays_and_stops.Goals as goal

pub returns : goal.returns
returns c = record { play = plays; stop = stops; newly = newly }
