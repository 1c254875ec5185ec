use Rattle.std.proofs.Common.{ℕ, List, sym, subst}
use Rattle.voice_journal.specs.Readings.{with_payload}
use Rattle.voice_journal.specs.Stands.{StandsInDoubt}
use Rattle.voice_store.specs.declared.committing.Plan.{Plan}
use Rattle.voice_store.specs.Trying.{records_after}
use Rattle.voice_store.proofs.committing.put.Goals as goal

pub returns-in-Append-clause-doubt : goal.returns-in-Append-clause-doubt
returns-in-Append-clause-doubt g c =
    λ h r stands is.
    let new = g.D.Disk.told c.append.new.disk in
    let got = c.append.ensures.doubt h r stands is in (
      subst (λ (p : Plan). StandsInDoubt c.append.new.self new r (records_after c.args.going.now p r)) (sym c.in-Append.is)
          (subst (λ (bytes : List ℕ). StandsInDoubt c.append.new.self new r (with_payload r bytes)) c.payload.ensures got.0),
      got.1,
    )

pub returns-in-Switch-clause-doubt : goal.returns-in-Switch-clause-doubt
returns-in-Switch-clause-doubt g c =
    λ h r stands is.
    let new = g.D.Disk.told c.switch.new.disk in
    let got = c.switch.ensures.doubt h r stands is in
    (subst (λ (p : Plan). StandsInDoubt c.switch.new.self new r (records_after c.args.going.now p r)) (sym c.in-Switch.is) got.0, got.1)
