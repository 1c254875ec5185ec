use Rattle.std.proofs.Common.{◌≡◌, ◌⊎◌, true, rules}
use Rattle.std.specs.Arc.{arc_value}
use Rattle.voice_outside.specs.Counters.{HasRisen}
use Rattle.voice_main.specs.declared.status.Status.TheVariants.{NoMemory}
use Rattle.voice_main.proofs.Left.{left_unset, left_lent}
use Rattle.voice_main.proofs.top_call.perform.Goals as goal

pub returns-in-Err-clause-left : goal.returns-in-Err-clause-left
returns-in-Err-clause-left g c =
    left_unset c.args.threads (arc_value c.args.scripted.now.tapes) c.args.scripted.now.script (g.K.Shelf.files c.args.shelf.now) (g.D.Disk.told c.args.disk) (g.D.Disk.told c.in-Err.disk) c.new.result.items c.in-Err.status c.in-Err.ensures.opens

pub returns-then-not-called-clause-left : goal.returns-then-not-called-clause-left
returns-then-not-called-clause-left g c =
    left_unset c.args.threads (arc_value c.args.scripted.now.tapes) c.args.scripted.now.script (g.K.Shelf.files c.args.shelf.now) (g.D.Disk.told c.args.disk) (g.D.Disk.told c.in-Ok.called.disk) c.in-Ok.called.history.items NoMemory tt

pub returns-clause-left : goal.returns-clause-left
returns-clause-left g c =
    let fine : c.in-Ok.called.is_finished ≡ true = search rules in
    let shelf : Type 0 = HasRisen (g.K.Shelf.faults c.args.shelf.now) (g.K.Shelf.faults c.finish-status.new.shelf) in
    let sink : Type 0 = HasRisen (g.O.Sink.faults c.args.out.now) (g.O.Sink.faults c.finish-status.new.out) ⊎ HasRisen (g.O.Sink.empty_takes c.args.out.now) (g.O.Sink.empty_takes c.finish-status.new.out) in
    left_lent c.args.threads (arc_value c.args.scripted.now.tapes) c.args.scripted.now.script (g.K.Shelf.files c.args.shelf.now) (g.K.Shelf.files c.finish-status.new.shelf) (g.D.Disk.told c.args.disk) (g.D.Disk.told c.in-Ok.called.disk)
    c.in-Ok.called.history.items c.deref-2.result.now c.in-Ok.called.heard.items c.deref-3.result.now shelf sink c.finish-status.result c.deref-2.ensures.value c.deref-3.ensures.value (c.in-Ok.ensures.finished fine) c.finish-status.ensures.which c.finish-status.ensures.files
