use Rattle.std.proofs.Common.{◌≡◌, ◌+◌, ◌-◌, ◌||◌, take}
use Rattle.voice_units.specs.Spots.{spots_of}
use Rattle.voice_units.specs.Blocks.{pairs_at, has_pair, in_run}
use Rattle.rope_table.specs.Table.{uses_at}
use Rattle.voice_blocks.specs.Holders.{EachBecomes}
use Rattle.collector.specs.Freed.{freed}
use Rattle.collector.proofs.Stretched.{spans}
use Rattle.collector.proofs.releasing.drop_unused.Given as goal

abbrev pub invariant-loop-k : goal.invariant-loop-k
invariant-loop-k g l = record {
  holders : EachBecomes (freed (has_pair (pairs_at l.block (spots_of (take l.k l.pieces)))) (uses_at l.table)) l.fn.blocks.holders l.blocks.holders;
  spare : l.blocks.spare ≡ l.fn.blocks.spare;
  steps : l.steps ≡ l.fn.steps + spans l.block (take l.k l.pieces);
}

abbrev pub invariant-loop-index : goal.invariant-loop-index
invariant-loop-index g l = record {
  holders : EachBecomes (freed (λ q. has_pair (pairs_at l.block (spots_of (take l.k l.pieces))) q || in_run l.file l.initial.index l.index q) (uses_at l.table)) l.fn.blocks.holders l.blocks.holders;
  spare : l.blocks.spare ≡ l.fn.blocks.spare;
  steps : l.steps ≡ l.fn.steps + spans l.block (take l.k l.pieces) + (l.index - l.initial.index);
}
