use Rattle.mirror_laws.proofs.Quiet.{looks_carry}
use Rattle.mirror_laws.proofs.laws.looks_carry.Goals as goal

pub returns : goal.returns
returns g c = looks_carry c.foundations.ensures (g.D.Disk.told c.args.old.now) (g.D.Disk.told c.args.new.now)
