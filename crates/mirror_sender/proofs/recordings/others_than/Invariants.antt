use Rattle.std.proofs.Common.{◌≡◌, ◌++◌, drop}
use Rattle.mirror_sender.specs.Abreast.{others_than}
use Rattle.mirror_sender.proofs.recordings.others_than.Given as goal

abbrev pub invariant-loop-added : goal.invariant-loop-added
invariant-loop-added l = l.others.items ++ others_than (drop l.added-index l.adds) l.fn.lane ≡ others_than l.adds l.fn.lane
