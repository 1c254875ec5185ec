use Rattle.std.proofs.Common.{◌≡◌, ◌≤◌, ◌-◌, ◌%◌, take, drop, sum_by}
use Rattle.std.specs.Simd.Lanes.{sum_l}
use Rattle.voice_model.specs.Talk.{loud}
use Rattle.silence_scan.proofs.loudness.blocks_loud.Given as goal

abbrev pub invariant-pairs : goal.invariant-pairs
invariant-pairs l = (l.done ≤ l.n) × (l.done % 32 ≡ 0) × (sum_l l.sums ≡ sum_by loud (take l.done (drop l.at l.bytes)))

abbrev pub decreases-pairs : goal.decreases-pairs
decreases-pairs l = l.n - l.done

abbrev pub invariant-lanes : goal.invariant-lanes
invariant-lanes l = (l.done ≤ l.n) × (l.done % 32 ≡ 0) × (sum_l l.sums ≡ sum_by loud (take l.done (drop l.at l.bytes)))

abbrev pub decreases-lanes : goal.decreases-lanes
decreases-lanes l = l.n - l.done
