use Rattle.std.proofs.Common.{◌≡◌, ◌+◌, ◌-◌, drop}
use Rattle.recording_writer.specs.Runs.{IsRun, runs}
use Rattle.recording_writer.proofs.writing.run_length.Given as goal

abbrev pub invariant-loop-n : goal.invariant-loop-n
invariant-loop-n l = IsRun l.addresses l.from l.n × (runs (drop l.from l.addresses) ≡ runs (drop (l.from + l.n - 1) l.addresses))
