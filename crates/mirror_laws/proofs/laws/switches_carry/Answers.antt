use Rattle.mirror_laws.proofs.Commits.{switches_carry}
use Rattle.mirror_laws.proofs.laws.switches_carry.Goals as goal

pub returns : goal.returns
returns g c = switches_carry c.foundations.ensures (g.D.Disk.told c.args.old.now) (g.D.Disk.told c.args.new.now)
