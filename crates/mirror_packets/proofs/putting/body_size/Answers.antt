use Rattle.std.proofs.Common.{rules, ap, length, arith, ◌<◌, ◌^◌}
use Rattle.mirror_packets.specs.Packets.{body_spelling}
use Rattle.mirror_packets.specs.Shown.{body_of}
use Rattle.mirror_packets.proofs.Lengths.{body_length}
use Rattle.mirror_packets.proofs.putting.body_size.Goals as goal

pub overflow_cast-result-in-Other : goal.overflow_cast-result-in-Other
overflow_cast-result-in-Other c =
    let most = body_length (body_of c.args.body.now) c.requires in
    let whole = ap (λ b. length (body_spelling (body_of b))) c.in-Other.is in
    let few : c.size.result < 2 ^ 32 = omega (arith, most, whole, c.size.ensures) in
    search rules
