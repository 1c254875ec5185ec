use Rattle.std.proofs.Common.{◌≡◌, [], replicate}
use Rattle.circular_buffer.specs.Buffer.{buffer}
use Rattle.play_queue.proofs.lanes.Queues.new.Given as goal

abbrev pub invariant-loop : goal.invariant-loop
invariant-loop l = l.all.items ≡ replicate l.counter (buffer [] 8)
