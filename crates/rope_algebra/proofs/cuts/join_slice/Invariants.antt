use Rattle.std.proofs.Common.{drop}
use Rattle.rope_algebra.proofs.Joins.{IsUnderway}
use Rattle.rope_algebra.proofs.cuts.join_slice.Given as goal

abbrev pub invariant-loop-other : goal.invariant-loop-other
invariant-loop-other l = IsUnderway l.initial.pieces.items l.pieces.items l.others (drop l.other-index l.others) l.start l.len l.skip l.left
