use Rattle.std.proofs.Common.{◌≡◌, ℕ, true, Some, length, drop}
use Rattle.voice_units.specs.Blocks.{BlockPair}
use Rattle.voice_blocks.specs.declared.owner.Holder.{Holder}
use Rattle.voice_blocks.specs.declared.owner.Owner.TheVariants.{File}
use Rattle.voice_blocks.specs.Holders.{holder_at, block_of}
use Rattle.rope_table.specs.Table.{uses_at}
use Rattle.recovery.specs.Placing.{in_use}
use Rattle.recovery.specs.Building.{is_noted}
use Rattle.recovery.proofs.building.free_noted.Given as goal

abbrev pub invariant-loop-block : goal.invariant-loop-block
invariant-loop-block l = record {
  only : (a : ℕ) → in_use l.ropes (holder_at l.blocks.holders a) ≡ in_use l.ropes (holder_at l.fn.blocks.holders a);
  held : (a : ℕ) (h : Holder) → holder_at l.blocks.holders a ≡ Some h → holder_at l.fn.blocks.holders a ≡ Some h;
  rest : (a : ℕ) (pair : BlockPair) → is_noted l.noted pair ≡ true → uses_at l.ropes pair ≡ 0 → holder_at l.blocks.holders a ≡ Some (block_of (File pair.file) pair.index) → is_noted (drop l.block-index l.noted) pair ≡ true;
  size : length l.blocks.holders ≡ length l.fn.blocks.holders;
}
