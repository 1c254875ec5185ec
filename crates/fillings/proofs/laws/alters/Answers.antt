use Rattle.fillings.proofs.Acted.{used_acted, alike_acted}
use Rattle.fillings.proofs.Calls.{call_legal, call_does}
use Rattle.fillings.proofs.laws.alters.Goals as goal

pub returns : goal.returns
returns c = record { legal = call_legal; does = call_does; all_used = used_acted; stays = alike_acted }
