use Rattle.std.proofs.Common.{arith, ◌≤◌, ◌^◌, drop, sum_by, take}
use Rattle.std.specs.Simd.Lanes.{sum_l}
use Rattle.voice_model.specs.Talk.{loud}
use Rattle.silence_scan.proofs.Lanes.{taken_small, block_added, pair_added}
use Rattle.silence_scan.proofs.loudness.blocks_loud.Goals as goal

pub add_lanes-sums-requires : goal.add_lanes-sums-requires
add_lanes-sums-requires c =
    let small : sum_by loud (take c.pairs.done (drop c.args.at c.args.bytes.now)) ≤ 2 ^ 31 = taken_small (drop c.args.at c.args.bytes.now) c.pairs.done (omega (arith, c.pairs.invariant.0, c.requires.short)) in
    omega (arith, c.pairs.invariant.2, small)

pub pairs-preserved : goal.pairs-preserved
pairs-preserved c = (
  omega (arith, c.pairs.invariant.0, c.pairs-test.true),
  omega (arith, c.pairs.invariant.1),
  pair_added c.args.bytes.now c.args.at c.pairs.done (sum_l c.pairs.sums) (sum_l c.pair_lanes.result) (sum_l c.add_lanes-sums.result) c.pairs.invariant.2 c.pair_lanes.ensures c.add_lanes-sums.ensures,
)

pub add_lanes-sums-requires-in-lanes : goal.add_lanes-sums-requires-in-lanes
add_lanes-sums-requires-in-lanes c =
    let small : sum_by loud (take c.lanes.done (drop c.args.at c.args.bytes.now)) ≤ 2 ^ 31 = taken_small (drop c.args.at c.args.bytes.now) c.lanes.done (omega (arith, c.lanes.invariant.0, c.requires.short)) in
    omega (arith, c.lanes.invariant.2, small)

pub lanes-preserved : goal.lanes-preserved
lanes-preserved c = (
  omega (arith, c.lanes.invariant.0, c.lanes.invariant.1, c.requires.whole, c.lanes-test.true),
  omega (arith, c.lanes.invariant.1),
  block_added c.args.bytes.now c.block_lanes.result c.args.at c.lanes.done (sum_l c.lanes.sums) (sum_l c.add_lanes-sums-in-lanes.result) c.lanes.invariant.2 c.block_lanes.ensures c.add_lanes-sums-in-lanes.ensures,
)

pub reduced-requires : goal.reduced-requires
reduced-requires c =
    let small : sum_by loud (take c.lanes.done (drop c.args.at c.args.bytes.now)) ≤ 2 ^ 31 = taken_small (drop c.args.at c.args.bytes.now) c.lanes.done (omega (arith, c.lanes.invariant.0, c.requires.short)) in
    omega (arith, c.lanes.invariant.2, small)
