use Rattle.std.proofs.Common.{◌≡◌, ℕ, List, take}
use Rattle.next_ropes.specs.Lowest.{AreAddresses}
use Rattle.next_ropes.proofs.recordings.addresses_of.Given as goal

abbrev pub invariant-loop-index : goal.invariant-loop-index
invariant-loop-index l = (addresses : List ℕ) → AreAddresses l.blocks.holders l.file l.count addresses → l.addresses.items ≡ take l.index addresses
