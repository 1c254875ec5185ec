use Rattle.std.proofs.Common.{◌≡◌, ◌++◌, map, drop}
use Rattle.recovery.specs.Building.{block_in}
use Rattle.recovery.proofs.bases.note_pairs.Given as goal

abbrev pub invariant-loop-pair : goal.invariant-loop-pair
invariant-loop-pair l = l.noted.items ++ map (block_in l.file) (drop l.pair-index l.pairs) ≡ l.fn.noted.items ++ map (block_in l.file) l.pairs
