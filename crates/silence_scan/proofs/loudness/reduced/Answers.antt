use Rattle.std.proofs.Common.{arith, ◌∙◌, zero-add}
use Rattle.std.proofs.lemmas.Simd.{sum_fits, fold-sum}
use Rattle.std.specs.Simd.Lanes.{sum_l}
use mir.Syntax.{w32}
use Rattle.silence_scan.proofs.loudness.reduced.Goals as goal

pub overflow_add-result : goal.overflow_add-result
overflow_add-result c = sum_fits w32 0 c.args.sums (omega (arith, c.requires))

pub returns : goal.returns
returns c = fold-sum 0 c.args.sums ∙ zero-add (sum_l c.args.sums)
