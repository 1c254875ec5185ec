use Rattle.record_job.proofs.Outputs.{gives_whole, gives_all, fills_up}
use Rattle.record_job.proofs.laws.add_laws.Goals as goal

pub returns : goal.returns
returns c = record { whole = gives_whole; all = gives_all; filled = fills_up }
