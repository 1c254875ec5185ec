use Rattle.std.proofs.Common.{ℕ, List, sym, subst}
use Rattle.std.specs.Prelude.{OnOk}
use Rattle.voice_journal.specs.Readings.{with_payload}
use Rattle.crash_laws.specs.Calls.{Does, Doubts}
use Rattle.voice_mirror.specs.declared.ready.How.{How}
use Rattle.voice_mirror.specs.Ready.{put_on}
use Rattle.voice_mirror.proofs.Results.{does_all}
use Rattle.voice_mirror.proofs.committing.put.Goals as goal

pub returns-in-Append-clause-ok : goal.returns-in-Append-clause-ok
returns-in-Append-clause-ok g c =
    λ honest.
    let old = g.D.Disk.told c.args.disk.now in
    let new = g.D.Disk.told c.append.new.disk in
    subst (λ (how : How). OnOk c.append.result (Does (put_on how) c.args.journal.now c.append.new.self old new)) (sym c.in-Append.is)
    (subst (λ (bytes : List ℕ). OnOk c.append.result (Does (λ r. with_payload r bytes) c.args.journal.now c.append.new.self old new)) c.deref.ensures.value
    (does_all (λ r. with_payload r c.deref.result.now) c.args.journal.now c.append.new.self old new c.append.result (λ r at. c.append.ensures.ok honest r at)))

pub returns-in-Append-clause-before : goal.returns-in-Append-clause-before
returns-in-Append-clause-before g c = λ honest e r at. c.append.ensures.before honest r at e

pub returns-in-Append-clause-doubt : goal.returns-in-Append-clause-doubt
returns-in-Append-clause-doubt g c =
    λ honest e.
    let old = g.D.Disk.told c.args.disk.now in
    let new = g.D.Disk.told c.append.new.disk in
    subst (λ (how : How). Doubts (put_on how) c.args.journal.now c.append.new.self old new) (sym c.in-Append.is)
    (subst (λ (bytes : List ℕ). Doubts (λ r. with_payload r bytes) c.args.journal.now c.append.new.self old new) c.deref.ensures.value (λ r at. c.append.ensures.doubt honest r at e))

pub returns-in-Switch-clause-ok : goal.returns-in-Switch-clause-ok
returns-in-Switch-clause-ok g c =
    λ honest.
    let old = g.D.Disk.told c.args.disk.now in
    let new = g.D.Disk.told c.switch.new.disk in
    subst (λ (how : How). OnOk c.switch.result (Does (put_on how) c.args.journal.now c.switch.new.self old new)) (sym c.in-Switch.is)
    (does_all _ c.args.journal.now c.switch.new.self old new c.switch.result (λ r at. c.switch.ensures.ok honest r at))

pub returns-in-Switch-clause-before : goal.returns-in-Switch-clause-before
returns-in-Switch-clause-before g c = λ honest e r at. c.switch.ensures.before honest r at e

pub returns-in-Switch-clause-doubt : goal.returns-in-Switch-clause-doubt
returns-in-Switch-clause-doubt g c =
    λ honest e.
    let old = g.D.Disk.told c.args.disk.now in
    let new = g.D.Disk.told c.switch.new.disk in
    subst (λ (how : How). Doubts (put_on how) c.args.journal.now c.switch.new.self old new) (sym c.in-Switch.is) (λ r at. c.switch.ensures.doubt honest r at e)
