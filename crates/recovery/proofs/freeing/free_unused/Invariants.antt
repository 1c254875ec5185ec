use Rattle.std.proofs.Common.{◌≡◌, ℕ, true, Some, length, drop}
use Rattle.voice_units.specs.Spots.{spots_of}
use Rattle.voice_units.specs.Blocks.{BlockPair, pairs_at, has_pair}
use Rattle.voice_blocks.specs.declared.owner.Holder.{Holder}
use Rattle.voice_blocks.specs.declared.owner.Owner.TheVariants.{File}
use Rattle.voice_blocks.specs.Holders.{holder_at, block_of}
use Rattle.rope_table.specs.Table.{uses_at}
use Rattle.recovery.specs.Placing.{in_use}
use Rattle.recovery.proofs.freeing.free_unused.Given as goal

abbrev pub invariant-loop-k : goal.invariant-loop-k
invariant-loop-k l = record {
  only : (a : ℕ) → in_use l.ropes (holder_at l.blocks.holders a) ≡ in_use l.ropes (holder_at l.fn.blocks.holders a);
  held : (a : ℕ) (h : Holder) → holder_at l.blocks.holders a ≡ Some h → holder_at l.fn.blocks.holders a ≡ Some h;
  rest : (a : ℕ) (pair : BlockPair) → has_pair (pairs_at l.ropes.block (spots_of l.pieces)) pair ≡ true → uses_at l.ropes pair ≡ 0 → holder_at l.blocks.holders a ≡ Some (block_of (File pair.file) pair.index) → has_pair (pairs_at l.ropes.block (spots_of (drop l.k l.pieces))) pair ≡ true;
  size : length l.blocks.holders ≡ length l.fn.blocks.holders;
}
