use Rattle.voice_model.specs.Replay.{finished}
use Rattle.recovery.proofs.replaying.replay.Goals as goal

pub returns-clause-ok : goal.returns-clause-ok
returns-clause-ok c = let end = c.in_ok-take_all.ensures.ok in (finished end.0, end.2, c.finish.ensures end.0 end.1)
