use Rattle.std.proofs.Common.{◌≡◌, ◌+◌, ◌≤◌, take}
use Rattle.play_queue.specs.Queued.{lane_of}
use Rattle.playing.specs.Held.{LetsGo, held_in, stretch_count}
use Rattle.playing.proofs.passages.let_go_jobs.Given as goal

abbrev pub invariant-loop-k : goal.invariant-loop-k
invariant-loop-k g l = record {
  gone : LetsGo l.fn.ropes l.ropes l.fn.blocks.holders l.blocks.holders (held_in (take l.k (lane_of l.queues l.lane)));
  spare : l.blocks.spare ≡ l.fn.blocks.spare;
  spare_ropes : l.ropes.spare_ropes ≡ l.fn.ropes.spare_ropes;
  spare_pairs : l.fn.ropes.spare_pairs ≤ l.ropes.spare_pairs;
  steps : l.steps ≡ l.fn.steps + stretch_count l.fn.ropes.block (held_in (take l.k (lane_of l.queues l.lane)));
}
