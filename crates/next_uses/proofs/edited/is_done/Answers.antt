use Rattle.std.proofs.Common.{Ok, Err, sym, ◌∙◌}
use Rattle.recovery.proofs.Rebuilding.{parts_after}
use Rattle.next_uses.proofs.edited.is_done.Goals as goal

pub returns-in-Ok-apply : goal.returns-in-Ok-apply
returns-in-Ok-apply c = parts_after c.args.shape.now c.args.parts.now c.apply.new.self c.in-Ok.change c.apply.result c.requires c.apply.ensures.done c.apply.ensures.same

pub returns : goal.returns
returns c = parts_after c.args.shape.now c.args.parts.now c.apply.new.self c.in-Ok.change c.apply.result c.requires c.apply.ensures.done c.apply.ensures.same
