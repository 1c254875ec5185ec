use Rattle.serving_laws.proofs.Others.{hears_after_entry, hears_after, fed_by_another}
use Rattle.serving_laws.proofs.laws.others_leave_the_first_job.Goals as goal

pub returns : goal.returns
returns c = record { entry = hears_after_entry; history = hears_after; of_others = fed_by_another }
