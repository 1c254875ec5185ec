use Rattle.std.proofs.Common.{◌≡◌, ◌+◌, map, take}
use Rattle.rope_table.specs.declared.dues.Due.{Due}
use Rattle.rope_table.specs.Table.{index_of}
use Rattle.collector.proofs.Looked.{IsLooked}
use Rattle.collector.proofs.sweeping.ropes_due.Given as goal

abbrev pub invariant-loop-k : goal.invariant-loop-k
invariant-loop-k g l = record {
  looked : IsLooked l.now (index_of l.table.ropes) l.k;
  ropes : l.due.items ≡ map (λ (due : Due). due.id) (take l.k (index_of l.table.ropes));
  steps : l.steps ≡ l.fn.steps + l.k;
}
