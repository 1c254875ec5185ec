use Rattle.std.proofs.Common.{arith, ap, ◌∙◌, length, ◌≡◌}
use Rattle.silence_scan.specs.Greatest.{greatest}
use Rattle.silence_scan.proofs.Greatest.{block_taken, block_length, zip2-length}
use Rattle.silence_scan.proofs.loudness.peak.Goals as goal

pub whole-preserved : goal.whole-preserved
whole-preserved c =
    let n : length c.block_lanes.result ≡ 32 = block_length c.args.bytes.now c.block_lanes.result c.whole.at (omega arith) c.block_lanes.ensures in (
      omega arith,
      ap length c.max_lanes-lanes.ensures ∙ (zip2-length c.whole.lanes c.block_lanes.result (omega arith) ∙ c.whole.invariant.1),
      ap greatest c.max_lanes-lanes.ensures ∙ block_taken c.args.bytes.now c.whole.lanes c.block_lanes.result c.whole.at (omega arith) c.whole.invariant.1 c.whole.invariant.2 c.block_lanes.ensures n,
    )
