use Rattle.crash_laws.proofs.Noted.{looks_carry}
use Rattle.crash_laws.proofs.laws.looks_carry.Goals as goal

pub returns : goal.returns
returns g c = looks_carry (g.D.Disk.told c.args.old.now) (g.D.Disk.told c.args.new.now)
