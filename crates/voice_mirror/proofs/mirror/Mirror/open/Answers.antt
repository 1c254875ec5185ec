use Rattle.voice_mirror.proofs.Opened.{whole, whole_by_copy}
use Rattle.voice_mirror.proofs.mirror.Mirror.open.Goals as goal

pub invariant_of-result : goal.invariant_of-result
invariant_of-result g c =
    let old = g.D.Disk.told c.args.disk in
    let new = g.D.Disk.told c.open.new.disk in
    let facts = c.in-Ok.ensures in
    whole_by_copy (λ d. g.D.Disk.told d) c.of-origin.result.value c.args.disk new c.in-Ok.inside c.of-origin.ensures (whole old new c.in-Ok.inside c.open.ensures.looks facts.standing facts.reads)
