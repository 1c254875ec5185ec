use Rattle.voice_main.specs.Outside.{Outside, outside}
use Rattle.voice_main.proofs.Verdicts.{promised_census, promised_notes_stop, named_well}
use Rattle.voice_main.proofs.census.census.Goals as goal

pub returns-in-Ok-clause-promise : goal.returns-in-Ok-clause-promise
returns-in-Ok-clause-promise g c =
    let told = g.D.Disk.told c.args.disk in
    let new : Outside = outside (g.K.Shelf.files c.named.new.shelf) (g.K.Shelf.faults c.named.new.shelf) (g.O.Sink.contents c.counted.new.out) (g.O.Sink.faults c.counted.new.out) (g.O.Sink.empty_takes c.counted.new.out) (g.D.Disk.told c.counted.result.disk) in
    promised_census c.args.index.now (g.K.Shelf.files c.args.shelf.now) (g.K.Shelf.faults c.args.shelf.now) (g.O.Sink.contents c.args.out.now) (g.O.Sink.faults c.args.out.now) (g.O.Sink.empty_takes c.args.out.now) told new c.in-Ok.keys c.counted.result.history.items c.counted.result.status
    c.in-Ok.ensures.ok c.counted.ensures.which c.counted.ensures.whole c.counted.ensures.sink_fault c.counted.ensures.so_far c.counted.ensures.done

pub returns-in-Err-clause-promise : goal.returns-in-Err-clause-promise
returns-in-Err-clause-promise g c = promised_notes_stop c.args.index.now (g.K.Shelf.files c.args.shelf.now) (g.K.Shelf.faults c.args.shelf.now) (g.O.Sink.contents c.args.out.now) (g.O.Sink.faults c.args.out.now) (g.O.Sink.empty_takes c.args.out.now) (g.D.Disk.told c.args.disk) (g.K.Shelf.files c.named.new.shelf) (g.K.Shelf.faults c.named.new.shelf) (g.O.Sink.contents c.args.out.now) (g.O.Sink.faults c.args.out.now) (g.O.Sink.empty_takes c.args.out.now) c.new.result.items c.in-Err.status c.in-Err.ensures.stops c.new.ensures.items

pub returns-in-Ok-clause-shelf : goal.returns-in-Ok-clause-shelf
returns-in-Ok-clause-shelf g c = λ is. absurd (named_well _ (g.D.Disk.told c.args.disk) (g.D.Disk.told c.counted.result.disk) c.counted.result.status c.counted.ensures.which is)
