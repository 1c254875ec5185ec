use Rattle.std.proofs.Common.{[], refl, sym, subst}
use Rattle.voice_main.specs.declared.status.Status.{Status}
use Rattle.voice_main.specs.Outside.{outside}
use Rattle.voice_main.specs.AuditPromise.{AuditPromise}
use Rattle.voice_main.proofs.Standing.{refused_promise}
use Rattle.voice_main.proofs.audited.printed.Goals as goal

pub returns-clause-promise : goal.returns-clause-promise
returns-clause-promise g c = λ files shelf_faults.
    let contents = g.O.Sink.contents c.args.out.now in
    let faults = g.O.Sink.faults c.args.out.now in
    let empty = g.O.Sink.empty_takes c.args.out.now in
    let old = g.D.Disk.told c.args.disk.now in
    let new = g.D.Disk.told c.audit.new.disk in
    subst (λ (status : Status). AuditPromise (outside files shelf_faults contents faults empty old) (outside files shelf_faults contents faults empty new) status []) (sym c.open_status.ensures)
    (refused_promise files shelf_faults contents contents faults empty faults empty old new c.audit.ensures.looks refl c.in-Err.e c.in-Err.ensures.bad c.in-Err.ensures.fault)
