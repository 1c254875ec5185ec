use Rattle.std.specs.Arc.{arc_value}
use Rattle.voice_main.specs.Outside.{Outside, outside}
use Rattle.voice_main.proofs.Exact.{promised_stop}
use Rattle.voice_main.proofs.Left.{promised_ran}
use Rattle.voice_main.proofs.top_call.run_script.Goals as goal

pub returns-in-Ok-clause-promise : goal.returns-in-Ok-clause-promise
returns-in-Ok-clause-promise g c =
    let told = g.D.Disk.told c.args.disk in
    let new : Outside = outside (g.K.Shelf.files c.perform.new.shelf) (g.K.Shelf.faults c.perform.new.shelf) (g.O.Sink.contents c.perform.new.out) (g.O.Sink.faults c.perform.new.out) (g.O.Sink.empty_takes c.perform.new.out) (g.D.Disk.told c.perform.result.disk) in
    promised_ran c.args.threads c.args.name.now (g.K.Shelf.files c.args.shelf.now) (g.K.Shelf.files c.prepared.new.shelf) (g.K.Shelf.faults c.args.shelf.now) (g.O.Sink.contents c.args.out.now) (g.O.Sink.faults c.args.out.now) (g.O.Sink.empty_takes c.args.out.now) (g.K.Shelf.faults c.prepared.new.shelf) told new
    c.in-Ok.scripted.script (arc_value c.in-Ok.scripted.tapes) c.perform.result.history.items c.perform.result.status c.in-Ok.ensures.kept c.in-Ok.ensures.later c.in-Ok.ensures.ready
    c.perform.ensures.which c.perform.ensures.left c.perform.ensures.so_far c.perform.ensures.goes.faults c.perform.ensures.done

pub returns-in-Err-clause-promise : goal.returns-in-Err-clause-promise
returns-in-Err-clause-promise g c =
    promised_stop c.args.threads c.args.name.now (g.K.Shelf.files c.args.shelf.now) (g.K.Shelf.files c.prepared.new.shelf) (g.K.Shelf.faults c.args.shelf.now) (g.K.Shelf.faults c.prepared.new.shelf) (g.O.Sink.contents c.args.out.now) (g.O.Sink.faults c.args.out.now) (g.O.Sink.empty_takes c.args.out.now)
    (g.D.Disk.told c.args.disk) c.new.result.items c.in-Err.status c.in-Err.ensures.stops c.in-Err.ensures.kept c.new.ensures.items
