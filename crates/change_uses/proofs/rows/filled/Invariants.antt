use Rattle.recovery.specs.Shown.{IsParts}
use Rattle.change_uses.proofs.rows.filled.Given as goal

abbrev pub invariant-ropes : goal.invariant-ropes
invariant-ropes l = IsParts l.shape l.parts
