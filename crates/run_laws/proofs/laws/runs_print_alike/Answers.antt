use Rattle.run_laws.proofs.Finished.{runs_print_alike}
use Rattle.run_laws.proofs.laws.runs_print_alike.Goals as goal

pub returns : goal.returns
returns g c = runs_print_alike (g.D.Disk.told c.args.old.now) (g.D.Disk.told c.args.new.now) (g.E.Disk.told c.args.other_old.now) (g.E.Disk.told c.args.other_new.now)
