use Rattle.std.proofs.Common.{drop}
use Rattle.rope_algebra.proofs.Joins.{IsGathered}
use Rattle.rope_algebra.proofs.algebra.Pieces.of.Given as goal

abbrev pub invariant-loop-piece : goal.invariant-loop-piece
invariant-loop-piece l = IsGathered l.pieces.items l.list (drop l.piece-index l.list) l.length
