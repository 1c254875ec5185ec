use Rattle.std.proofs.Common.{◌≡◌, ◌≤◌, ◌-◌, length, take}
use Rattle.voice_model.specs.Talk.{peak}
use Rattle.silence_scan.specs.Greatest.{greatest}
use Rattle.silence_scan.proofs.loudness.peak.Given as goal

abbrev pub invariant-whole : goal.invariant-whole
invariant-whole l = (l.at ≤ length l.bytes) × (length l.lanes ≡ 32) × (greatest l.lanes ≡ peak (take l.at l.bytes))

abbrev pub decreases-whole : goal.decreases-whole
decreases-whole l = length l.bytes - l.at

abbrev pub invariant-ends : goal.invariant-ends
invariant-ends l = (l.at ≤ length l.bytes) × (l.most ≡ peak (take l.at l.bytes))

abbrev pub decreases-ends : goal.decreases-ends
decreases-ends l = length l.bytes - l.at
