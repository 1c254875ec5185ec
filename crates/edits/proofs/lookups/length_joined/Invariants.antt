use Rattle.std.proofs.Common.{◌≡◌, ◌+◌, ◌*◌, ◌^◌, ◌≤◌, drop}
use Rattle.edits.specs.Tables.{length_joined}
use Rattle.edits.proofs.lookups.length_joined.Given as goal

abbrev pub invariant-loop-id : goal.invariant-loop-id
invariant-loop-id l = (l.total + length_joined l.ropes.ropes (drop l.id-index l.ids) ≡ length_joined l.ropes.ropes l.ids) × (l.total ≤ 2 ^ 32 * l.id-index)
