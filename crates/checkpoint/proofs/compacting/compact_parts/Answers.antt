use Rattle.checkpoint.proofs.Held.{can_compact}
use Rattle.checkpoint.proofs.compacting.compact_parts.Goals as goal

pub compact-requires : goal.compact-requires
compact-requires c = record { what = c.requires.shown.0; can = can_compact c.args.form c.args.parts.now c.requires.shown.0 c.requires.shown.1 c.requires.form }

pub returns-clause-base : goal.returns-clause-base
returns-clause-base c = λ r shows. c.compact.ensures.base r (can_compact c.args.form c.args.parts.now r shows c.requires.form)

pub returns-clause-size : goal.returns-clause-size
returns-clause-size c = λ r shows. c.compact.ensures.size r (can_compact c.args.form c.args.parts.now r shows c.requires.form)

pub returns-clause-replays : goal.returns-clause-replays
returns-clause-replays c = λ r shows. c.compact.ensures.replays r (can_compact c.args.form c.args.parts.now r shows c.requires.form)
