use Rattle.std.proofs.Common.{◌≡◌, ℕ, Some, true, length}
use Rattle.voice_units.specs.Blocks.{BlockPair, in_run}
use Rattle.voice_blocks.specs.declared.owner.Holder.{Holder}
use Rattle.voice_blocks.specs.declared.owner.Owner.TheVariants.{File}
use Rattle.voice_blocks.specs.Holders.{holder_at, block_of}
use Rattle.rope_table.specs.Table.{uses_at}
use Rattle.recovery.specs.Placing.{in_use}
use Rattle.recovery.proofs.freeing.free_piece.Given as goal

abbrev pub invariant-loop-index : goal.invariant-loop-index
invariant-loop-index l = record {
  only : (a : ℕ) → in_use l.ropes (holder_at l.blocks.holders a) ≡ in_use l.ropes (holder_at l.fn.blocks.holders a);
  held : (a : ℕ) (h : Holder) → holder_at l.blocks.holders a ≡ Some h → holder_at l.fn.blocks.holders a ≡ Some h;
  gone : (a : ℕ) (q : BlockPair) → in_run l.piece.file l.initial.index l.index q ≡ true → uses_at l.ropes q ≡ 0 → ¬ (holder_at l.blocks.holders a ≡ Some (block_of (File q.file) q.index));
  size : length l.blocks.holders ≡ length l.fn.blocks.holders;
}
