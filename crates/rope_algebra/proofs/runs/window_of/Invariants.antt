use Rattle.std.proofs.Common.{drop}
use Rattle.rope_algebra.proofs.Stretched.{IsPartWindow}
use Rattle.rope_algebra.proofs.runs.window_of.Given as goal

abbrev pub invariant-loop-piece : goal.invariant-loop-piece
invariant-loop-piece l = IsPartWindow l.block l.pieces (drop l.piece-index l.pieces) l.heard l.skip l.most l.samples
