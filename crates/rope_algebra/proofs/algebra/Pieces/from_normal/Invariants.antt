use Rattle.std.proofs.Common.{drop}
use Rattle.rope_algebra.proofs.Begun.{IsSummed}
use Rattle.rope_algebra.proofs.algebra.Pieces.from_normal.Given as goal

abbrev pub invariant-loop-piece : goal.invariant-loop-piece
invariant-loop-piece l = IsSummed l.fn.pieces.items (drop l.piece-index l.piece-items) l.length
