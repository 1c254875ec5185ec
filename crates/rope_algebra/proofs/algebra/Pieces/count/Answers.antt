use Rattle.std.proofs.Common.{arith}
use Rattle.rope_algebra.proofs.Parts.{count_in_samples}
use Rattle.rope_algebra.proofs.algebra.Pieces.count.Goals as goal

pub overflow_cast-result : goal.overflow_cast-result
overflow_cast-result c =
    let few = count_in_samples c.self.inside.pieces.items c.self.invariant.normal in
    omega (arith, few, c.self.invariant.total, c.self.invariant.fits, c.self.inside.pieces.ok.0)
