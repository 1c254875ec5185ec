use Rattle.std.proofs.Common.{subst}
use Rattle.voice_model.specs.Replay.{acted}
use Rattle.voice_mirror.specs.declared.ready.Planned.{Planned}
use Rattle.voice_mirror.specs.Ready.{IsPlanned}
use Rattle.voice_mirror.proofs.Planning.{readied_goes}
use Rattle.voice_mirror.proofs.ready.settle_on.Goals as goal

pub returns-in-Ok-Goes : goal.returns-in-Ok-Goes
returns-in-Ok-Goes c =
    λ b legal shows.
    let x = acted b c.args.change in
    readied_goes c.args.journal.now c.args.number c.args.change b c.args.tables c.in-Ok-Goes.how legal shows (subst (λ (p : Planned). IsPlanned c.args.journal.now c.args.number x c.args.change p) c.in-Ok-Goes.field-0-is (c.in-Ok-Goes.ensures x shows))

pub returns-in-Ok-Full : goal.returns-in-Ok-Full
returns-in-Ok-Full c =
    λ b legal shows.
    let x = acted b c.args.change in
    (legal, subst (λ (p : Planned). IsPlanned c.args.journal.now c.args.number x c.args.change p) c.in-Ok-Full.field-0-is (c.in-Ok-Full.ensures x shows))
