use Rattle.std.proofs.Common.{◌≡◌, ◌++◌, drop}
use Rattle.rope_algebra.specs.Kept.{LieInFiles}
use Rattle.edits.specs.Tables.{pieces_joined}
use Rattle.edits.proofs.joining.join.Given as goal

abbrev pub invariant-loop-id : goal.invariant-loop-id
invariant-loop-id l = (l.list.items ++ pieces_joined l.ropes.ropes (drop l.id-index l.ids) ≡ pieces_joined l.ropes.ropes l.ids) × LieInFiles l.list.items
