use Rattle.serving_laws.proofs.Served.{comes_back}
use Rattle.serving_laws.proofs.laws.a_window_that_comes_back.Goals as goal

pub returns : goal.returns
returns c = record { goes_on = comes_back }
