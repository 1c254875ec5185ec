use Rattle.std.proofs.Common.{subst}
use Rattle.voice_store.specs.declared.going.Going.{Going}
use Rattle.voice_store.specs.Going.{IsGoing}
use Rattle.voice_store.proofs.going.tables_after.Goals as goal

pub parts_after-requires : goal.parts_after-requires
parts_after-requires c =
    let r = c.requires in
    let is = subst (λ (x : Going). IsGoing r.held r.takings r.more c.args.parts.now r.b x r.c) c.in-Change.is r.ready in
    record { held = r.held; takings = r.takings; b = r.b; c = r.c; next = is.1; in_shape = r.in_shape }

pub parts_after-requires-in-Ending : goal.parts_after-requires-in-Ending
parts_after-requires-in-Ending c =
    let r = c.requires in
    let is = subst (λ (x : Going). IsGoing r.held r.takings r.more c.args.parts.now r.b x r.c) c.in-Ending.is r.ready in
    (r.held, r.takings, r.b, r.c, is.1)
