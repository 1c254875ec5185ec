use Rattle.std.proofs.Common.{refl}
use Rattle.recovery.proofs.Built.{nothing_built}
use Rattle.recovery.proofs.building.Building.new.Goals as goal

pub returns : goal.returns
returns c = nothing_built _ c.args.shape.now c.in_ok-empty.ensures refl
