use Rattle.checkpoint.proofs.Held.{used_alone}
use Rattle.replay_uses.proofs.bases.compacted.Goals as goal

pub compact_parts-requires-clause-shown : goal.compact_parts-requires-clause-shown
compact_parts-requires-clause-shown c = (c.requires.what, used_alone c.args.parts.now c.requires.what c.requires.shows)

pub compact_parts-requires-then-parts-eq1-clause-shown : goal.compact_parts-requires-then-parts-eq1-clause-shown
compact_parts-requires-then-parts-eq1-clause-shown c = (c.requires.what, used_alone c.args.parts.now c.requires.what c.requires.shows)
