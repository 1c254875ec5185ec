use Rattle.mirror_laws.proofs.Opened.{opening_holds}
use Rattle.mirror_laws.proofs.laws.opening_holds.Goals as goal

pub returns : goal.returns
returns g c = opening_holds c.foundations.ensures (g.D.Disk.told c.args.disk.now)
