use Rattle.std.proofs.Common.{◌≡◌, ◌≤◌, ◌-◌, length, take, sum_by}
use Rattle.voice_model.specs.Talk.{loud}
use Rattle.silence_scan.proofs.loudness.loud_sum.Given as goal

abbrev pub invariant-chunks : goal.invariant-chunks
invariant-chunks l = (l.at ≤ length l.bytes) × (l.total ≡ sum_by loud (take l.at l.bytes))

abbrev pub decreases-chunks : goal.decreases-chunks
decreases-chunks l = length l.bytes - l.at

abbrev pub invariant-ends : goal.invariant-ends
invariant-ends l = (l.at ≤ length l.bytes) × (l.total ≡ sum_by loud (take l.at l.bytes))

abbrev pub decreases-ends : goal.decreases-ends
decreases-ends l = length l.bytes - l.at
