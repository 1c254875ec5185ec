use Rattle.std.proofs.Common.{◌≡◌, length, arith}
use Rattle.voice_mirror.proofs.Fronts.{short_is_none}
use Rattle.voice_mirror.proofs.front.refuse_first.Goals as goal

pub returns-then-size-lt64-clause-ok : goal.returns-then-size-lt64-clause-ok
returns-then-size-lt64-clause-ok g c =
    λ honest.
    let disk = c.args.disk.now in
    let bytes = (g.D.Disk.told disk).bytes in
    let laws = g.met.D.Disk g.world.𝓛 g.world.𝓜 g.world.𝓡 ((λ s x. x), (λ x. x), (λ x. x), λ x. x) in
    let full : length bytes ≡ (g.D.Disk.told disk).size = laws.sized disk _ bytes honest (laws.present disk honest) in
    short_is_none bytes (omega (arith, full, c.size.ensures, c.if-size-lt64.true))
