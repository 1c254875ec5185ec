use Rattle.std.proofs.Common.{refl}
use Rattle.recovery.proofs.Built.{begun_built}
use Rattle.recovery.proofs.building.Building.begin.Goals as goal

pub returns : goal.returns
returns c = λ r change h legal grammar fresh acts. begun_built c.args.self.now _ r change c.args.form c.args.now c.args.next h legal grammar fresh acts refl refl refl refl refl refl refl refl
