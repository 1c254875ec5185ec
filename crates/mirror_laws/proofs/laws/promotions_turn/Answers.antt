use Rattle.mirror_laws.proofs.Promotion.{promotions_turn}
use Rattle.mirror_laws.proofs.laws.promotions_turn.Goals as goal

pub returns : goal.returns
returns g c = promotions_turn c.foundations.ensures (g.D.Disk.told c.args.old.now) (g.D.Disk.told c.args.new.now)
