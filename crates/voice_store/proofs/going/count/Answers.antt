use Rattle.std.proofs.Common.{subst}
use Rattle.voice_store.specs.declared.going.Going.{Going}
use Rattle.voice_store.specs.Going.{IsGoing}
use Rattle.voice_store.proofs.going.count.Goals as goal

pub pledge-requires : goal.pledge-requires
pledge-requires c =
    let r = c.requires.1 in
    let is = subst (λ (x : Going). IsGoing r.held r.takings r.more c.args.parts.now r.b x r.c) c.in-Ending.is r.ready in
    (r.held, r.takings, r.b, r.c, is.1)

pub returns-in-Ending-clause-ready : goal.returns-in-Ending-clause-ready
returns-in-Ending-clause-ready c = λ held takings more b change h.
    let is = subst (λ (x : Going). IsGoing held takings more c.args.parts.now b x change) c.in-Ending.is h in
    c.pledge.ensures.ready held takings more b change is.1 is.0
