use Rattle.voice_main.specs.Load.{bytes_of}
use Rattle.voice_main.proofs.Loaded.{rose_since, load_weaker, absent_at}
use Rattle.voice_main.proofs.load.files.Goals as goal

pub returns-in-Err-clause-err : goal.returns-in-Err-clause-err
returns-in-Err-clause-err g c =
    load_weaker c.in-Err.e _ _ _ _
    (λ missing. absent_at (g.K.Shelf.files c.args.shelf.now) (g.K.Shelf.files c.loop-name.shelf) c.args.names.now c.loop-name.name-index c.name-item.result (bytes_of c.loop-name.all.items) missing
    c.loop-name.invariant.kept c.loop-name-test.true c.name-item.is c.loop-name.invariant.there)
    (rose_since (g.K.Shelf.faults c.args.shelf.now) (g.K.Shelf.faults c.loop-name.shelf) (g.K.Shelf.faults c.file.new.shelf) c.loop-name.invariant.later c.in-Err.ensures.later)
    c.in-Err.ensures.err
