use Rattle.std.proofs.Common.{◌≡◌, None, replicate}
use Rattle.recording_calls.proofs.recordings.Recordings.new.Given as goal

abbrev pub invariant-loop : goal.invariant-loop
invariant-loop l = l.all.items ≡ replicate l.counter None
