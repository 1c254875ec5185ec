use Rattle.serving_laws.proofs.Whole.{told_whole}
use Rattle.serving_laws.proofs.laws.a_feed_is_told_whole.Goals as goal

pub returns : goal.returns
returns c = record { told = told_whole }
