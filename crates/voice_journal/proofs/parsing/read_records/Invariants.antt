use Rattle.std.proofs.Common.{◌-◌, length}
use Rattle.voice_journal.proofs.Stepping.{IsReading}
use Rattle.voice_journal.proofs.parsing.read_records.Given as goal

abbrev pub invariant-loop-gate : goal.invariant-loop-gate
invariant-loop-gate l = IsReading l.start l.area l.spans.items l.gate

abbrev pub decreases-loop-gate : goal.decreases-loop-gate
decreases-loop-gate l = length l.area - l.gate
