use Rattle.std.proofs.Common.{◌≡◌, ℕ, ◌+◌, ◌≤◌, Some, length, drop}
use Rattle.voice_model.specs.Replay.{placed_from}
use Rattle.voice_blocks.specs.Holders.{holder_at, without_owner, block_of}
use Rattle.voice_blocks.specs.declared.owner.Owner.TheVariants.{File}
use Rattle.recovery.specs.Shown.{placed_at}
use Rattle.recovery.specs.Placing.{or_else, may_place}
use Rattle.recovery.proofs.placing.place_all.Given as goal

abbrev pub invariant-loop-index : goal.invariant-loop-index
invariant-loop-index l = record {
  legal : may_place l.fn.blocks.holders l.file 0 l.addresses ≡ may_place l.blocks.holders l.file l.index (drop l.index l.addresses);
  placed : (a : ℕ) → or_else (holder_at l.blocks.holders a) (placed_at (placed_from l.file l.index (drop l.index l.addresses)) a) ≡ or_else (holder_at l.fn.blocks.holders a) (placed_at (placed_from l.file 0 l.addresses) a);
  before : (a : ℕ) → without_owner (File l.file) (holder_at l.blocks.holders a) ≡ holder_at l.fn.blocks.holders a;
  fresh : (a j : ℕ) → l.index ≤ j → ¬ (holder_at l.blocks.holders a ≡ Some (block_of (File l.file) j));
  size : length l.blocks.holders ≡ length l.fn.blocks.holders;
  room : length l.addresses ≤ l.blocks.spare + l.index;
}
