use Rattle.std.proofs.Common.{◌≡◌, ◌≤◌, ◌+◌, ◌++◌, length, map}
use Rattle.std.specs.Prelude.{vec_capacity, ◌&&◌}
use Rattle.callers.specs.Seats.{pass_of, heard_of, all_done}
use Rattle.callers.proofs.seats.hand_back.Given as goal

abbrev pub invariant-loop-runner : goal.invariant-loop-runner
invariant-loop-runner g l = record {
  all : map pass_of l.runners.items ++ l.passes.items ≡ map pass_of l.fn.runners.items;
  heard : map heard_of l.runners.items ++ l.lists.items ≡ map heard_of l.fn.runners.items;
  done : (all_done l.runners.items && l.all) ≡ all_done l.fn.runners.items;
  room : length l.passes.items + length l.runners.items ≤ vec_capacity l.passes;
  room_heard : length l.lists.items + length l.runners.items ≤ vec_capacity l.lists;
}

abbrev pub decreases-loop-runner : goal.decreases-loop-runner
decreases-loop-runner g l = goal.left-loop-runner g l
