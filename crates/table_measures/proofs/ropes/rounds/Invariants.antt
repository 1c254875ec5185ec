use Rattle.std.proofs.Common.{◌≡◌, false}
use Rattle.rope_table.specs.Table.{Every}
use Rattle.table_measures.proofs.ropes.rounds.Given as goal

abbrev pub invariant-loop : goal.invariant-loop
invariant-loop g l = Every (λ rope. rope.kept ≡ false) l.table.ropes
