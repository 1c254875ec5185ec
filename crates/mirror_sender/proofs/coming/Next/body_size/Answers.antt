use Rattle.std.proofs.Common.{rules, ◌≡◌, ◌+◌, ◌<◌, ◌^◌, length, ap, sym, ◌∙◌, subst, arith}
use Rattle.mirror_sender.specs.Coming.{IsNextOf}
use Rattle.mirror_sender.proofs.Bodies.{voice_short, other_short}
use Rattle.mirror_sender.proofs.coming.Next.body_size.Goals as goal

pub overflow_add-result-in-Voice : goal.overflow_add-result-in-Voice
overflow_add-result-in-Voice c =
    let is = subst (λ n. IsNextOf c.requires.0 c.requires.1 c.requires.2 n c.requires.3) c.in-Voice.is c.requires.4 in
    let short = voice_short c.requires.0 c.requires.1 c.in-Voice.pieces c.in-Voice.field-1.items c.requires.3 is in
    let few : 9 + c.length.result < 2 ^ 32 = omega (arith, short, c.length.ensures.value) in
    search rules

pub overflow_cast-result : goal.overflow_cast-result
overflow_cast-result c =
    let is = subst (λ n. IsNextOf c.requires.0 c.requires.1 c.requires.2 n c.requires.3) c.in-Other.is c.requires.4 in
    let short = other_short c.requires.0 c.requires.2 c.in-Other.ready c.requires.3 is in
    let same = ap length c.as_slice.ensures in
    let few : length c.as_slice.result.now < 2 ^ 32 = omega (arith, short, same) in
    search rules
