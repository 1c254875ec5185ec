use Rattle.std.proofs.Common.{◌≡◌, ◌-◌, ◌++◌, length, drop}
use Rattle.mirror_tables.specs.Numbered.{with_number}
use Rattle.mirror_tables.proofs.bases.with_number.Given as goal

abbrev pub invariant-loop-payload : goal.invariant-loop-payload
invariant-loop-payload l = l.numbered ++ with_number l.number (drop l.index l.base) ≡ with_number l.number l.base

abbrev pub decreases-loop-payload : goal.decreases-loop-payload
decreases-loop-payload l = length l.base - l.index
