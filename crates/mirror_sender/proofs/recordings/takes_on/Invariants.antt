use Rattle.std.proofs.Common.{◌≡◌, ◌++◌, drop}
use Rattle.mirror_sender.specs.Abreast.{takes_on}
use Rattle.mirror_sender.proofs.recordings.takes_on.Given as goal

abbrev pub invariant-loop-added : goal.invariant-loop-added
invariant-loop-added l = l.takes.items ++ takes_on (drop l.added-index l.adds) l.fn.lane ≡ takes_on l.adds l.fn.lane
