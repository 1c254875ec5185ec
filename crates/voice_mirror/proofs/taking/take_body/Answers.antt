use Rattle.std.proofs.Common.{sym, subst}
use Rattle.std.specs.Prelude.{IfOk}
use Rattle.mirror_packets.specs.Shown.{body_of}
use Rattle.mirror_packets.specs.declared.packets.Body.{Body}
use Rattle.voice_mirror.specs.Shown.{state_of}
use Rattle.voice_mirror.specs.Taking.{Takes}
use Rattle.voice_mirror.proofs.taking.take_body.Goals as goal

pub returns-in-Voice-clause-takes : goal.returns-in-Voice-clause-takes
returns-in-Voice-clause-takes g c =
    λ honest first from t0 taken keeps.
    subst (λ (body : Body). IfOk c.take_voice.result (λ answer. Takes first from t0 taken (g.D.Disk.told c.take_voice.new.disk) (state_of c.take_voice.new.inside) c.args.number (body_of body) answer)) (sym c.in-Voice.is)
    (c.take_voice.ensures.takes honest first from t0 taken keeps)

pub returns-in-Other-clause-takes : goal.returns-in-Other-clause-takes
returns-in-Other-clause-takes g c =
    λ honest first from t0 taken keeps.
    subst (λ (body : Body). IfOk c.take_other.result (λ answer. Takes first from t0 taken (g.D.Disk.told c.take_other.new.disk) (state_of c.take_other.new.inside) c.args.number (body_of body) answer)) (sym c.in-Other.is)
    (c.take_other.ensures.takes honest first from t0 taken keeps)
