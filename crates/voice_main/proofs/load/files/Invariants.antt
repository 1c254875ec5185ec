use Rattle.std.proofs.Common.{◌≡◌, ◌≤◌, take, length}
use Rattle.std.specs.Prelude.{IfSome}
use Rattle.voice_main.specs.Load.{AreFiles, bytes_of}
use Rattle.voice_main.proofs.load.files.Given as goal

abbrev pub invariant-loop-name : goal.invariant-loop-name
invariant-loop-name g l = record {
  kept : g.K.Shelf.files l.shelf ≡ g.K.Shelf.files l.fn.shelf;
  later : g.K.Shelf.faults l.fn.shelf ≤ g.K.Shelf.faults l.shelf;
  len : length l.all.items ≡ l.name-index;
  there : IfSome (g.K.Shelf.files l.fn.shelf) (λ files. AreFiles files (take l.name-index l.names) (bytes_of l.all.items));
}
