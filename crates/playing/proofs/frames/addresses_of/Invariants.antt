use Rattle.std.proofs.Common.{◌≡◌, length}
use Rattle.playing.specs.Frames.{AreAddresses}
use Rattle.playing.proofs.frames.addresses_of.Given as goal

abbrev pub invariant-loop-k : goal.invariant-loop-k
invariant-loop-k l = (length l.addresses ≡ 4) × AreAddresses l.block l.blocks.holders l.window l.addresses l.k
