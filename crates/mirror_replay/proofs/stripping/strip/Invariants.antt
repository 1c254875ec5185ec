use Rattle.std.proofs.Common.{◌-◌, length}
use Rattle.mirror_replay.proofs.SoFar.{IsSoFar}
use Rattle.mirror_replay.proofs.stripping.strip.Given as goal

abbrev pub invariant-loop-payload : goal.invariant-loop-payload
invariant-loop-payload l = IsSoFar l.payloads l.list l.course l.index

abbrev pub decreases-loop-payload : goal.decreases-loop-payload
decreases-loop-payload l = length l.payloads - l.index
