use Rattle.mirror_laws.proofs.Quiet.{writes_carry}
use Rattle.mirror_laws.proofs.laws.writes_carry.Goals as goal

pub returns : goal.returns
returns g c = writes_carry c.foundations.ensures (g.D.Disk.told c.args.old.now) (g.D.Disk.told c.args.new.now)
