use Rattle.std.specs.Arc.{arc_value}
use Rattle.voice_main.specs.Outside.{Outside, outside}
use Rattle.voice_main.proofs.SentOut.{packets_ran, packets_stop}
use Rattle.voice_main.proofs.packets.packets.Goals as goal

pub returns-in-Ok-clause-promise : goal.returns-in-Ok-clause-promise
returns-in-Ok-clause-promise g c =
    let told = g.D.Disk.told c.args.disk in
    let asked = c.args.asked.now in
    let new : Outside = outside (g.K.Shelf.files c.send.new.shelf) (g.K.Shelf.faults c.send.new.shelf) (g.O.Sink.contents c.send.new.out) (g.O.Sink.faults c.send.new.out) (g.O.Sink.empty_takes c.send.new.out) (g.D.Disk.told c.send.result.disk) in
    packets_ran asked.script asked.file asked.first (g.K.Shelf.files c.args.shelf.now) (g.K.Shelf.files c.prepared.new.shelf) (g.K.Shelf.faults c.args.shelf.now) (g.O.Sink.contents c.args.out.now) (g.O.Sink.faults c.args.out.now) (g.O.Sink.empty_takes c.args.out.now) (g.K.Shelf.faults c.prepared.new.shelf) told new
    c.in-Ok.scripted.script (arc_value c.in-Ok.scripted.tapes) c.send.result.history.items c.send.result.status c.in-Ok.ensures.kept c.in-Ok.ensures.later c.in-Ok.ensures.ready
    c.send.ensures.which c.send.ensures.left c.send.ensures.so_far c.send.ensures.goes.faults c.send.ensures.done c.send.ensures.prefix

pub returns-in-Err-clause-promise : goal.returns-in-Err-clause-promise
returns-in-Err-clause-promise g c =
    let asked = c.args.asked.now in
    packets_stop asked.script asked.file asked.first (g.K.Shelf.files c.args.shelf.now) (g.K.Shelf.files c.prepared.new.shelf) (g.K.Shelf.faults c.args.shelf.now) (g.K.Shelf.faults c.prepared.new.shelf) (g.O.Sink.contents c.args.out.now) (g.O.Sink.faults c.args.out.now) (g.O.Sink.empty_takes c.args.out.now)
    (g.D.Disk.told c.args.disk) c.new.result.items c.in-Err.status c.in-Err.ensures.stops c.in-Err.ensures.kept c.new.ensures.items
