use Rattle.mirror_laws.proofs.Landing.{landings_carry}
use Rattle.mirror_laws.proofs.laws.landings_carry.Goals as goal

pub returns : goal.returns
returns g c = landings_carry c.foundations.ensures (g.D.Disk.told c.args.old.now) (g.D.Disk.told c.args.new.now)
