use Rattle.serving_laws.proofs.TakenIn.{window_lies}
use Rattle.serving_laws.proofs.laws.a_window_lies_in_its_passage.Goals as goal

pub returns : goal.returns
returns c = record { within = window_lies }
