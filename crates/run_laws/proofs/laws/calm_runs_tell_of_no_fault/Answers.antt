use Rattle.run_laws.proofs.Finished.{calm_runs_tell_of_no_fault}
use Rattle.run_laws.proofs.laws.calm_runs_tell_of_no_fault.Goals as goal

pub returns : goal.returns
returns g c = calm_runs_tell_of_no_fault (g.D.Disk.told c.args.old.now) (g.D.Disk.told c.args.new.now)
