use Rattle.std.proofs.Common.{◌≡◌, drop}
use Rattle.edits.specs.Tables.{first_missing}
use Rattle.edits.proofs.lookups.if_unknown.Given as goal

abbrev pub invariant-loop-id : goal.invariant-loop-id
invariant-loop-id l = first_missing l.ropes.ropes l.ids ≡ first_missing l.ropes.ropes (drop l.id-index l.ids)
