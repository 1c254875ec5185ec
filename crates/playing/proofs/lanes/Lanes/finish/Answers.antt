use Rattle.playing.proofs.Sending.{finished}
use Rattle.playing.proofs.lanes.Lanes.finish.Goals as goal

pub returns-clause-queues : goal.returns-clause-queues
returns-clause-queues c = finished c.args.self.now.queues c.hear.new.self.queues c.end.new.self.queues c.args.lane c.args.more c.requires.lane c.hear.ensures.queues c.end.ensures.queues
