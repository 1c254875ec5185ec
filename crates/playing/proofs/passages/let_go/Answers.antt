use Rattle.playing.proofs.Letting.{one_gone, steps_of_one}
use Rattle.playing.proofs.passages.let_go.Goals as goal

pub returns-clause-gone : goal.returns-clause-gone
returns-clause-gone g c = one_gone c.args.ropes.now c.release.new.self c.args.blocks.now.holders c.drop_unused.new.blocks.holders c.args.passage.now c.release.ensures.ropes c.release.ensures.block c.release.ensures.uses c.release.ensures.counts c.drop_unused.ensures.holders

pub returns-clause-steps : goal.returns-clause-steps
returns-clause-steps g c = steps_of_one c.args.ropes.now.block c.release.new.self.block c.args.steps.now c.drop_unused.new.steps c.args.passage.now c.release.ensures.block c.drop_unused.ensures.steps
