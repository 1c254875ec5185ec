use Rattle.std.proofs.Common.{take}
use Rattle.served_files.proofs.SoFar.{IsSoFar}
use Rattle.served_files.proofs.setting.set_files.Given as goal

abbrev pub invariant-loop-entry : goal.invariant-loop-entry
invariant-loop-entry g l = IsSoFar (take l.entry-index l.history) l.heard l.at (g.K.Shelf.files l.fn.shelf) (g.K.Shelf.files l.shelf) (g.K.Shelf.faults l.fn.shelf) (g.K.Shelf.faults l.shelf)
