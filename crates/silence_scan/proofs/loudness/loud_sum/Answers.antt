use Rattle.std.proofs.Common.{◌∙◌, ◌+◌, ◌≡◌, take, sum_by, arith}
use Rattle.voice_model.specs.Talk.{loud}
use Rattle.silence_scan.proofs.Lanes.{more, below, ranged}
use Rattle.silence_scan.proofs.loudness.loud_sum.Goals as goal

pub overflow_add-total : goal.overflow_add-total
overflow_add-total c =
    let sum : c.chunks.total + c.from-total.result ≡ sum_by loud (take (c.chunks.at + c.min-n.result) c.args.bytes.now) = more c.args.bytes.now c.chunks.at c.min-n.result _ _ c.chunks.invariant.1 (c.from-total.ensures ∙ (c.blocks_loud.ensures ∙ ranged c.args.bytes.now c.chunks.at c.min-n.result)) in
    record { fits = omega (arith, sum, below c.args.bytes.now (c.chunks.at + c.min-n.result) c.requires) }

pub chunks-preserved : goal.chunks-preserved
chunks-preserved c = (omega (arith, c.chunks.invariant.0, c.min-n.ensures, c.chunks-test.true), more c.args.bytes.now c.chunks.at c.min-n.result _ _ c.chunks.invariant.1 (c.from-total.ensures ∙ (c.blocks_loud.ensures ∙ ranged c.args.bytes.now c.chunks.at c.min-n.result)))

pub overflow_add-total-in-ends : goal.overflow_add-total-in-ends
overflow_add-total-in-ends c =
    record { fits = omega (arith, c.ends.invariant.1, below c.args.bytes.now c.ends.at c.requires, c.from-total-in-ends.ensures, c.byte_loud.type_inv) }
