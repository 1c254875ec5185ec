use Rattle.std.proofs.Common.{drop}
use Rattle.rope_algebra.proofs.Begun.{AreStarting}
use Rattle.rope_algebra.proofs.starts.starts_of.Given as goal

abbrev pub invariant-loop-piece : goal.invariant-loop-piece
invariant-loop-piece l = AreStarting l.fn.pieces.items (drop l.piece-index l.piece-items) l.starts.items l.start
