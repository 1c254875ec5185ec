use Rattle.std.proofs.Common.{Bool, IsTrue, sym, subst}
use Rattle.mirror_packets.specs.Shown.{packet_of}
use Rattle.voice_mirror.specs.Shown.{state_of}
use Rattle.voice_mirror.specs.Taking.{with_landed}
use Rattle.voice_mirror.proofs.Growing.{takes_or, kept_on_err}
use Rattle.voice_mirror.proofs.taking.take.Goals as goal

pub returns-clause-takes : goal.returns-clause-takes
returns-clause-takes g c =
    λ honest first from t0 taken doubt keeps.
    let mid = g.D.Disk.told c.settle.new.disk in
    let m = state_of c.settle.new.inside in
    let t = state_of c.take_sure.new.inside in
    let kept = c.in-Ok.ensures.kept honest first from t0 taken doubt keeps in
    let honest_mid = subst (λ (x : Bool). IsTrue x) (sym c.settle.ensures.made.honest) honest in
    takes_or first from t0 mid.calls taken doubt (g.D.Disk.told c.take_sure.new.disk) t (packet_of c.args.packet.now) c.take_sure.result
    (c.take_sure.ensures.takes honest_mid first from t0 (with_landed doubt mid.calls taken) kept)
    (kept_on_err (λ d. g.D.Disk.told d) first from t0 (with_landed doubt mid.calls taken) c.settle.new.disk c.take_sure.new.disk m t c.take_sure.result c.take_sure.ensures.memory kept)
