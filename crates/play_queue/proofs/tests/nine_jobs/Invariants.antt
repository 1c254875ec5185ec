use Rattle.std.proofs.Common.{◌≡◌, length}
use Rattle.play_queue.proofs.tests.nine_jobs.Given as goal

abbrev pub invariant-loop-id : goal.invariant-loop-id
invariant-loop-id g l = length l.queues ≡ 4
