use Rattle.std.proofs.Common.{drop}
use Rattle.voice_model.specs.Valid.{Once}
use Rattle.recovery.proofs.RopesLeft.{AreGathered}
use Rattle.recovery.proofs.settling.ropes_of.Given as goal

abbrev pub invariant-loop-key : goal.invariant-loop-key
invariant-loop-key l = Once l.interests.rows → AreGathered l.class l.keys (drop l.key-index l.keys) l.interests.rows l.ropes.items
