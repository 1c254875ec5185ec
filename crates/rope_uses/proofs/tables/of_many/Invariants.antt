use Rattle.std.proofs.Common.{◌≤◌}
use Rattle.voice_units.specs.Blocks.{BlockPair}
use Rattle.rope_table.specs.Table.{uses_at}
use Rattle.rope_uses.proofs.tables.of_many.Given as goal

abbrev pub invariant-loop-k : goal.invariant-loop-k
invariant-loop-k l = (pair : BlockPair) → uses_at l.table pair ≤ l.k
