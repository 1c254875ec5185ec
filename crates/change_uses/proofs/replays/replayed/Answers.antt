use Rattle.recovery.proofs.Rebuilding.{parts_after}
use Rattle.change_uses.proofs.replays.replayed.Goals as goal

pub returns : goal.returns
returns c = parts_after c.args.shape.now c.args.parts.now c.apply-done.new.self c.in-Ok.change c.apply-done.result c.requires c.apply-done.ensures.done c.apply-done.ensures.same
