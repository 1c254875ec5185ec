use Rattle.std.proofs.Common.{◌≡◌, map, take}
use Rattle.checkpoint.specs.Blocks.{pair_of_block}
use Rattle.checkpoint.proofs.files.pairs_of.Given as goal

abbrev pub invariant-loop-block : goal.invariant-loop-block
invariant-loop-block l = l.pairs.items ≡ map pair_of_block (take l.block-index l.placed)
