use Rattle.std.proofs.Common.{◌≡◌, ◌++◌, take, drop, map, not}
use Rattle.std.specs.Prelude.{count_by}
use Rattle.circular_buffer.specs.Buffer.{buffer}
use Rattle.play_queue.specs.declared.jobs.Job.{Job}
use Rattle.play_queue.specs.Queued.{stopped_job}
use Rattle.play_queue.proofs.lanes.stop_all.Given as goal

abbrev pub invariant-loop-k : goal.invariant-loop-k
invariant-loop-k l = record {
  queue : l.queue ≡ buffer (map stopped_job (take l.k l.initial.queue.items) ++ drop l.k l.initial.queue.items) l.initial.queue.capacity;
  newly : l.newly ≡ count_by (λ (job : Job). not job.stopped) (take l.k l.initial.queue.items);
}
