use Rattle.std.proofs.Common.{◌+◌, ◌≤◌, ◌∙◌, arith, sym, subst}
use Rattle.std.proofs.lemmas.Simd.{Each2-of, sum-zip2}
use Rattle.std.specs.Simd.Lanes.{Each1}
use mir.Syntax.{w8}
use mir.Val.{Fits}
use Rattle.silence_scan.proofs.Greatest.{block_length}
use Rattle.silence_scan.proofs.Lanes.{louds_small, pair_sum}
use Rattle.silence_scan.proofs.loudness.pair_lanes.Goals as goal

pub overflow_add-result : goal.overflow_add-result
overflow_add-result c =
    Each2-of (λ a. a ≤ 127) (λ b. b ≤ 127) (λ a b. Fits w8 (a + b)) (λ a b p q. record { fits = omega (arith, p, q) }) c.block_lanes-low.result c.block_lanes-high.result
    (subst (λ l. Each1 (λ a. a ≤ 127) l) (sym c.block_lanes-low.ensures) (louds_small _)) (subst (λ l. Each1 (λ a. a ≤ 127) l) (sym c.block_lanes-high.ensures) (louds_small _))

pub returns : goal.returns
returns c =
    let low = block_length c.args.bytes.now c.block_lanes-low.result c.args.at (omega (arith, c.requires)) c.block_lanes-low.ensures in
    let high = block_length c.args.bytes.now c.block_lanes-high.result (c.args.at + 32) (omega (arith, c.requires)) c.block_lanes-high.ensures in
    sum-zip2 c.block_lanes-low.result c.block_lanes-high.result (low ∙ sym high) ∙ pair_sum c.args.bytes.now c.block_lanes-low.result c.block_lanes-high.result c.args.at c.block_lanes-low.ensures c.block_lanes-high.ensures
