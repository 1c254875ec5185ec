use Rattle.std.proofs.Common.{List, subst}
use Rattle.play_queue.specs.declared.jobs.Job.{Job}
use Rattle.play_queue.specs.Queued.{lane_of}
use Rattle.playing.specs.Lanes.{IsSentTo, next_window}
use Rattle.playing.proofs.Feeding.{sent_after}
use Rattle.playing.proofs.lanes.Lanes.serve.Goals as goal

pub returns-clause-frames : goal.returns-clause-frames
returns-clause-frames g c =
    sent_after c.args.shape.now.block (next_window c.args.shape.now.block c.args.heard (lane_of c.args.self.now.queues c.args.lane)) c.args.lane c.args.self.now.frames c.bring_back.new.self.frames c.feed.new.self.frames c.bring_back.ensures.frames
    (subst (λ (q : List (List Job)). IsSentTo c.args.shape.now.block (next_window c.args.shape.now.block c.args.heard (lane_of q c.args.lane)) c.args.lane c.bring_back.new.self.frames c.feed.new.self.frames) c.bring_back.ensures.queues c.feed.ensures.frames)

pub returns-clause-bytes : goal.returns-clause-bytes
returns-clause-bytes g c honest bytes there was = c.feed.ensures.bytes honest bytes there (c.bring_back.ensures.frames.bytes bytes was)
