use Rattle.std.proofs.Common.{sym, ◌∙◌}
use Rattle.voice_store.proofs.inside.Inside.done.Goals as goal

pub perform-requires : goal.perform-requires
perform-requires g c =
    let r = c.requires.ready in
    (r.held, r.more, r.b, r.c, c.count-next.ensures.ready r.held r.takings r.more r.b r.c r.ready)

pub returns-clause-kept : goal.returns-clause-kept
returns-clause-kept g c =
    let r = c.requires.ready in (
      c.count-next.new.parts.blocks.holders,
      c.count-next.ensures.addresses,
      c.perform.ensures.kept r.held r.more r.b r.c (c.count-next.ensures.ready r.held r.takings r.more r.b r.c r.ready) (r.in_shape ∙ sym c.shape-shape.ensures),
    )
