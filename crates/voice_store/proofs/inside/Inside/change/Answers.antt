use Rattle.std.proofs.Common.{◌+◌, ◌≤◌, sym, subst}
use Rattle.voice_model.specs.declared.calls.Call.{Call}
use Rattle.voice_store.specs.Stood.{last_of, tapes_of}
use Rattle.voice_store.specs.DeviceCalls.{change_calls}
use Rattle.voice_store.proofs.inside.Inside.change.Goals as goal

pub returns-in-Record-clause-calls : goal.returns-in-Record-clause-calls
returns-in-Record-clause-calls g c = λ first t0 stood.
    let s = c.args.self.now in
    subst (λ (x : Call). (g.D.Disk.told c.record.new.disk).calls ≤ (g.D.Disk.told c.args.disk.now).calls + change_calls (last_of first s) (tapes_of s) x) (sym c.in-Record.is) (c.record.ensures.calls first t0 stood)

pub returns-in-Concat-clause-calls : goal.returns-in-Concat-clause-calls
returns-in-Concat-clause-calls g c = λ first t0 stood.
    let s = c.args.self.now in
    subst (λ (x : Call). (g.D.Disk.told c.edit.new.disk).calls ≤ (g.D.Disk.told c.args.disk.now).calls + change_calls (last_of first s) (tapes_of s) x) (sym c.in-Concat.is) (c.edit.ensures.calls first t0 stood)

pub returns-in-Sub-clause-calls : goal.returns-in-Sub-clause-calls
returns-in-Sub-clause-calls g c = λ first t0 stood.
    let s = c.args.self.now in
    subst (λ (x : Call). (g.D.Disk.told c.edit-in-Sub.new.disk).calls ≤ (g.D.Disk.told c.args.disk.now).calls + change_calls (last_of first s) (tapes_of s) x) (sym c.in-Sub.is) (c.edit-in-Sub.ensures.calls first t0 stood)

pub returns-in-Replace-clause-calls : goal.returns-in-Replace-clause-calls
returns-in-Replace-clause-calls g c = λ first t0 stood.
    let s = c.args.self.now in
    subst (λ (x : Call). (g.D.Disk.told c.edit-in-Replace.new.disk).calls ≤ (g.D.Disk.told c.args.disk.now).calls + change_calls (last_of first s) (tapes_of s) x) (sym c.in-Replace.is) (c.edit-in-Replace.ensures.calls first t0 stood)

pub returns-in-End-clause-calls : goal.returns-in-End-clause-calls
returns-in-End-clause-calls g c = λ first t0 stood.
    let s = c.args.self.now in
    subst (λ (x : Call). (g.D.Disk.told c.end.new.disk).calls ≤ (g.D.Disk.told c.args.disk.now).calls + change_calls (last_of first s) (tapes_of s) x) (sym c.in-End.is) (c.end.ensures.calls first t0 stood)
