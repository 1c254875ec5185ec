use Rattle.std.proofs.Common.{List, Option, take, length}
use Rattle.playing.specs.declared.blocks.Block.{Block}
use Rattle.playing.specs.Frames.{AreFound}
use Rattle.playing.specs.Windows.{ArePartsOf}
use Rattle.playing.proofs.frames.parts_of.Given as goal

abbrev pub invariant-loop-k : goal.invariant-loop-k
invariant-loop-k l = (resident : List (Option Block)) → AreFound l.block resident l.window l.found (length l.window) → ArePartsOf l.block resident (take l.k l.window) l.parts.items
