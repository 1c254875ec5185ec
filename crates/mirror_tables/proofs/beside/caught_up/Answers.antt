use Rattle.std.proofs.Common.{Ok, ◌∙◌, ap}
use Rattle.mirror_tables.proofs.Alike.{now_same}
use Rattle.mirror_tables.proofs.beside.caught_up.Goals as goal

pub returns : goal.returns
returns c = now_same c.args.shape.now c.args.parts.now c.args.tables c.try_change.new.tables c.args.change.now c.try_change.result c.requires c.try_change.ensures (c.in-Ok-true.is ∙ ap Ok c.in-Ok-true.field-0-test)
