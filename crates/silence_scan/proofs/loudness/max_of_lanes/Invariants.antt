use Rattle.std.proofs.Common.{◌≡◌, take}
use Rattle.silence_scan.specs.Greatest.{greatest}
use Rattle.silence_scan.proofs.loudness.max_of_lanes.Given as goal

abbrev pub invariant-loop-x : goal.invariant-loop-x
invariant-loop-x l = l.most ≡ greatest (take l.x-index l.x-items)
