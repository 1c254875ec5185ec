use Rattle.std.proofs.Common.{◌-◌, ◌≤◌, drop, length}
use Rattle.recovery.specs.Shown.{numbered}
use Rattle.recovery.specs.Replayed.{bytes_of, records_of}
use Rattle.recovery.proofs.TakenSoFar.{GoesOn}
use Rattle.recovery.proofs.replaying.take_all.Given as goal

abbrev pub invariant-loop-payload : goal.invariant-loop-payload
invariant-loop-payload l = GoesOn l.shape l.building (records_of l.payloads) (numbered l.index (bytes_of (drop l.index l.payloads))) × (l.index ≤ length l.payloads)

abbrev pub decreases-loop-payload : goal.decreases-loop-payload
decreases-loop-payload l = length l.payloads - l.index
