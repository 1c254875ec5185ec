use Rattle.std.proofs.Common.{◌≡◌, ◌≤◌, ◌+◌, ◌++◌, [], length, map, All}
use Rattle.std.specs.Prelude.{vec_capacity}
use Rattle.callers.specs.Seats.{pass_of}
use Rattle.callers.proofs.seats.line_up.Given as goal

abbrev pub invariant-loop-pass : goal.invariant-loop-pass
invariant-loop-pass g l = record {
  all : l.passes.items ++ map pass_of l.runners.items ≡ l.fn.passes.items;
  heard : All (λ r. r.heard.items ≡ []) l.runners.items;
  room : length l.passes.items + length l.runners.items ≤ vec_capacity l.runners;
  back : vec_capacity l.fn.passes ≤ vec_capacity l.passes;
}

abbrev pub decreases-loop-pass : goal.decreases-loop-pass
decreases-loop-pass g l = goal.left-loop-pass g l
