use Rattle.mirror_laws.proofs.Changing.{failures_carry}
use Rattle.mirror_laws.proofs.laws.failures_carry.Goals as goal

pub returns : goal.returns
returns g c = failures_carry c.foundations.ensures (g.D.Disk.told c.args.old.now) (g.D.Disk.told c.args.new.now)
