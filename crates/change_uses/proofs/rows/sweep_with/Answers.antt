use Rattle.std.proofs.Common.{[], inl, ap, arith}
use Rattle.voice_units.specs.declared.shapes.Shape.{Shape}
use Rattle.recovery.proofs.Rebuilding.{orderly}
use Rattle.change_uses.proofs.rows.sweep_with.Goals as goal

pub ready_sweep-requires : goal.ready_sweep-requires
ready_sweep-requires g c =
    let r = c.requires.shown.what in
    let h = c.requires.shown.shows in
    ([], r.kept, h.kept, orderly c.args.parts.now r h, h.valid.kept.next_limit, inl (omega (arith, c.if-parts-ne2.false)), ap (λ (s : Shape). s.graces) c.requires.shown.in_shape)

pub done-requires : goal.done-requires
done-requires g c =
    let r = c.requires.shown.what in
    let h = c.requires.shown.shows in
    (r, _, h, c.in-Ok.ensures.ready [] r.kept h.kept (orderly c.args.parts.now r h) (inl (omega (arith, c.if-parts-ne2.false))) (ap (λ (s : Shape). s.graces) c.requires.shown.in_shape) c.args.parts.now.interests.spare)
