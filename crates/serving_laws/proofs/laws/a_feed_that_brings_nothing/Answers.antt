use Rattle.serving_laws.proofs.Served.{begins, known_goes_on}
use Rattle.serving_laws.proofs.laws.a_feed_that_brings_nothing.Goals as goal

pub returns : goal.returns
returns c = record { begins = begins; goes_on = known_goes_on }
