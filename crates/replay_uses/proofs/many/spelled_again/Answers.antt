use Rattle.checkpoint.proofs.Held.{used_alone}
use Rattle.replay_uses.proofs.many.spelled_again.Goals as goal

pub compact_parts-requires-clause-shown : goal.compact_parts-requires-clause-shown
compact_parts-requires-clause-shown c = (c.in-Ok.ensures.ok.0, used_alone c.in-Ok.parts c.in-Ok.ensures.ok.0 c.in-Ok.ensures.ok.2)
