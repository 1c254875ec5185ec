use Rattle.std.proofs.Common.{◌-◌}
use Rattle.rope_algebra.proofs.Stretched.{IsStretched}
use Rattle.rope_algebra.proofs.runs.first_stretches.Given as goal

abbrev pub invariant-loop-count : goal.invariant-loop-count
invariant-loop-count l = IsStretched l.block l.from l.len l.most l.count l.samples

abbrev pub decreases-loop-count : goal.decreases-loop-count
decreases-loop-count l = l.most - l.count
