use Rattle.mirror_laws.proofs.Commits.{appends_carry}
use Rattle.mirror_laws.proofs.laws.appends_carry.Goals as goal

pub returns : goal.returns
returns g c = appends_carry c.foundations.ensures (g.D.Disk.told c.args.old.now) (g.D.Disk.told c.args.new.now)
