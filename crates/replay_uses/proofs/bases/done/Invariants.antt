use Rattle.recovery.specs.Shown.{IsParts}
use Rattle.replay_uses.proofs.bases.done.Given as goal

abbrev pub invariant-changes : goal.invariant-changes
invariant-changes l = IsParts l.shape l.parts
