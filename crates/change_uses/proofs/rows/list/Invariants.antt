use Rattle.recovery.specs.Shown.{IsParts}
use Rattle.change_uses.proofs.rows.list.Given as goal

abbrev pub invariant-rows : goal.invariant-rows
invariant-rows l = IsParts l.shape l.parts
