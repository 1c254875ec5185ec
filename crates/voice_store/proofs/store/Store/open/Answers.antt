use Rattle.voice_store.proofs.FirstStates.{stands_by_copy}
use Rattle.voice_store.proofs.store.Store.open.Goals as goal

pub invariant_of-result : goal.invariant_of-result
invariant_of-result g c =
    let state = c.in-Ok.ensures.state in
    record {
      first = state.0;
      stands = stands_by_copy (λ d. g.D.Disk.told d) c.of-origin.result.value c.args.disk c.of-origin.ensures state.0 (g.D.Disk.told c.open.new.disk) c.in-Ok.inside c.in-Ok.ensures.fields.1 c.in-Ok.ensures.goes state.1;
    }

pub returns-in-Ok-clause-state : goal.returns-in-Ok-clause-state
returns-in-Ok-clause-state g c =
    let state = c.in-Ok.ensures.state in
    (state.0, stands_by_copy (λ d. g.D.Disk.told d) c.of-origin.result.value c.args.disk c.of-origin.ensures state.0 (g.D.Disk.told c.open.new.disk) c.in-Ok.inside c.in-Ok.ensures.fields.1 c.in-Ok.ensures.goes state.1, state.2)

pub returns-in-Ok-clause-since : goal.returns-in-Ok-clause-since
returns-in-Ok-clause-since g c = λ honest. (c.in-Ok.ensures.looks honest, c.in-Ok.ensures.since honest)
