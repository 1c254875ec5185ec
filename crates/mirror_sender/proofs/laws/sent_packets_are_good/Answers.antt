use Rattle.mirror_sender.proofs.Good.{good_history, files_history}
use Rattle.mirror_sender.proofs.Opened.{opened_files}
use Rattle.mirror_sender.proofs.laws.sent_packets_are_good.Goals as goal

pub returns : goal.returns
returns c = record { good = good_history; kept = files_history; opened = opened_files; formatted = λ shape. record { ropes = tt; doubt = tt } }
