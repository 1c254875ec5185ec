use Rattle.std.proofs.Common.{◌≡◌, ◌+◌, take}
use Rattle.collector.specs.Freed.{IsReleased, stretches_of}
use Rattle.collector.proofs.releasing.release_all.Given as goal

abbrev pub invariant-loop-id : goal.invariant-loop-id
invariant-loop-id g l = record {
  released : IsReleased l.fn.table l.table l.fn.blocks.holders l.blocks.holders (take l.id-index l.ids);
  spare : l.blocks.spare ≡ l.fn.blocks.spare;
  steps : l.steps ≡ l.fn.steps + l.id-index + stretches_of l.fn.table.block l.fn.table.ropes (take l.id-index l.ids);
}
