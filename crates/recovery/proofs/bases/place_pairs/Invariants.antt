use Rattle.std.proofs.Common.{◌≡◌, ℕ, ◌+◌, ◌≤◌, true, map, length, drop}
use Rattle.voice_model.specs.Spelling.{rise}
use Rattle.voice_model.specs.Replay.{place_of}
use Rattle.voice_blocks.specs.Holders.{holder_at}
use Rattle.recovery.specs.Shown.{placed_at}
use Rattle.recovery.specs.Placing.{or_else, may_enter}
use Rattle.recovery.proofs.Entered.{AreFresh}
use Rattle.recovery.proofs.bases.place_pairs.Given as goal

abbrev pub invariant-loop-pair : goal.invariant-loop-pair
invariant-loop-pair l = record {
  legal : may_enter l.fn.blocks.holders l.file l.pairs ≡ may_enter l.blocks.holders l.file (drop l.pair-index l.pairs);
  placed : (a : ℕ) → or_else (holder_at l.blocks.holders a) (placed_at (map (place_of l.file) (drop l.pair-index l.pairs)) a) ≡ or_else (holder_at l.fn.blocks.holders a) (placed_at (map (place_of l.file) l.pairs) a);
  fresh : AreFresh l.blocks.holders l.file (drop l.pair-index l.pairs);
  rising : rise (map (λ pair. pair.index) (drop l.pair-index l.pairs)) ≡ true;
  size : length l.blocks.holders ≡ length l.fn.blocks.holders;
  room : length l.pairs ≤ l.blocks.spare + l.pair-index;
}
