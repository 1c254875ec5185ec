use Rattle.std.proofs.Common.{sym, ◌∙◌}
use Rattle.voice_store.proofs.Altered.{weighed_after}
use Rattle.voice_store.proofs.inside.Inside.size_after.Goals as goal

pub parts_after-requires : goal.parts_after-requires
parts_after-requires c =
    let r = c.requires in
    record { held = r.held; takings = r.takings; b = r.b; c = r.c; next = r.ready; in_shape = r.in_shape ∙ sym c.shape-shape.ensures }

pub returns : goal.returns
returns c =
    λ b change s effect w.
    let shows = c.in_ok-after.ensures w.held w.takings b change w.is_next (w.in_shape ∙ sym c.shape-shape.ensures) in
    weighed_after c.args.self.now b c.args.next.now change s effect w c.in_ok-after.after c.parts_size.result shows c.parts_size.ensures.size
