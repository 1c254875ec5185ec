use Rattle.std.proofs.Common.{◌≡◌, length}
use Rattle.mirror_tables.specs.Taken.{AreHeld}
use Rattle.mirror_tables.proofs.addresses.addresses_of.Given as goal

abbrev pub invariant-loop-index : goal.invariant-loop-index
invariant-loop-index l = (length l.list.items ≡ l.index) × AreHeld 0 l.blocks.holders l.list.items
