use Rattle.mirror_laws.proofs.Opened.{standing_gives}
use Rattle.mirror_laws.proofs.laws.standing_gives.Goals as goal

pub returns : goal.returns
returns g c = standing_gives c.foundations.ensures (g.D.Disk.told c.args.disk.now)
