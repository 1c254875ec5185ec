use Rattle.std.proofs.Common.{refl, sym, ap, arith, ◌≤◌}
use Rattle.voice_units.specs.declared.shapes.Shape.{Shape}
use Rattle.recovery.proofs.Rebuilding.{orderly_rebuilt}
use Rattle.next_ropes.specs.Ready.{new_samples}
use Rattle.next_ropes.proofs.Performed.{came, unknown}
use Rattle.next_ropes.proofs.coming.perform.Goals as goal

pub add_rope-requires-clause-unknown : goal.add_rope-requires-clause-unknown
add_rope-requires-clause-unknown c = unknown c.requires.0 c.requires.1 c.args.parts.now c.requires.2 c.args.next c.requires.3 c.requires.4

pub returns-clause-runs : goal.returns-clause-runs
returns-clause-runs c = λ held takings b change h s.
    let number = h.number in
    let later : b.next ≤ c.args.next.id = omega (arith, number) in
    came held takings c.args.parts.now c.args.parts.now c.add_rope.new.self b c.args.next change h h.runs.kept refl refl c.add_rope.ensures.form (ap (λ blocks. blocks.holders) c.add_rope.ensures.blocks)
    (c.add_rope.ensures.shows held b.form b.kept (new_samples change) h.runs.kept (orderly_rebuilt b h.runs.valid) later h.pieces (ap (λ (shape : Shape). shape.graces.common) (sym s)))
