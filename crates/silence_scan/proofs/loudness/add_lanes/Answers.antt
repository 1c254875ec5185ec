use Rattle.std.proofs.Common.{replicate, length, arith, ◌≡◌, ◌*◌, ◌+◌, ◌≤◌, ◌∙◌, ap, refl, sym, subst}
use Rattle.std.proofs.lemmas.Simd.{dot4_Fits, adds_fit, sum-zip2, sum_dots, sum_by-ones, sum_bound, bytes_below}
use Rattle.std.specs.Simd.Lanes.{sum_l, products, dots}
use mir.Syntax.{w32}
use Rattle.silence_scan.proofs.loudness.add_lanes.Goals as goal

pub dot4 : goal.dot4
dot4 c = (dot4_Fits c.args.v (replicate 32 1) c.fits-v.1 tt, tt)

pub overflow_add-result : goal.overflow_add-result
overflow_add-result c =
    let all : sum_l (dots c.args.v (replicate 32 1)) ≡ sum_l (products c.args.v (replicate 32 1)) = (sum_dots 8 c.args.v (replicate 32 1) c.fits-v.0 refl).0 in
    let ones : sum_l (products c.args.v (replicate 32 1)) ≡ sum_l c.args.v = subst (λ n. sum_l (products c.args.v (replicate n 1)) ≡ sum_l c.args.v) c.fits-v.0 (sum_by-ones c.args.v) in
    let small : sum_l c.args.v ≤ 255 * length c.args.v = sum_bound 255 c.args.v (bytes_below c.args.v c.fits-v.1) in
    adds_fit w32 c.args.sums (dots c.args.v (replicate 32 1)) (omega (arith, all, ones, small, c.fits-v.0, c.requires))

pub returns : goal.returns
returns c =
    let all = sum_dots 8 c.args.v (replicate 32 1) c.fits-v.0 refl in
    let ones : sum_l (products c.args.v (replicate 32 1)) ≡ sum_l c.args.v = subst (λ n. sum_l (products c.args.v (replicate n 1)) ≡ sum_l c.args.v) c.fits-v.0 (sum_by-ones c.args.v) in
    sum-zip2 c.args.sums (dots c.args.v (replicate 32 1)) (c.fits-sums.0 ∙ sym all.1) ∙ ap (λ n. sum_l c.args.sums + n) (all.0 ∙ ones)
