use Rattle.std.proofs.Common.{List, sym, subst}
use Rattle.voice_model.specs.declared.calls.Entry.{Entry}
use Rattle.voice_main.specs.Outside.{outside}
use Rattle.voice_main.specs.AuditPromise.{AuditPromise}
use Rattle.voice_main.proofs.audited.audited.Goals as goal

pub returns-clause-promise : goal.returns-clause-promise
returns-clause-promise g c = λ files shelf_faults.
    let old = outside files shelf_faults (g.O.Sink.contents c.args.out.now) (g.O.Sink.faults c.args.out.now) (g.O.Sink.empty_takes c.args.out.now) (g.D.Disk.told c.args.disk) in
    let new = outside files shelf_faults (g.O.Sink.contents c.printed-status.new.out) (g.O.Sink.faults c.printed-status.new.out) (g.O.Sink.empty_takes c.printed-status.new.out) (g.D.Disk.told c.printed-status.new.disk) in
    subst (λ (history : List Entry). AuditPromise old new c.printed-status.result history) (sym c.new.ensures.items) (c.printed-status.ensures.promise files shelf_faults)
