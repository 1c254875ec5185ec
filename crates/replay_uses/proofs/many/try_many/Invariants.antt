use Rattle.recovery.specs.Shown.{IsParts}
use Rattle.replay_uses.proofs.many.try_many.Given as goal

abbrev pub invariant-changes : goal.invariant-changes
invariant-changes l = IsParts l.shape l.parts
