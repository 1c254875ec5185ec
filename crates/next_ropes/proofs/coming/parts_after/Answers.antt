use Rattle.std.proofs.Common.{sym, ◌∙◌, ap, arith}
use Rattle.voice_units.specs.declared.shapes.Shape.{Shape}
use Rattle.voice_units.specs.Spots.{spots_of}
use Rattle.voice_units.specs.Blocks.{has_pair, pairs_at}
use Rattle.rope_table.specs.Table.{rope_of, new_pairs}
use Rattle.recovery.proofs.Rebuilding.{orderly_rebuilt}
use Rattle.next_ropes.specs.Ready.{new_samples}
use Rattle.next_ropes.proofs.Performed.{came, unknown, blocks_few, addresses_few, alike_shows}
use Rattle.next_ropes.proofs.coming.parts_after.Goals as goal

pub new_blocks-requires : goal.new_blocks-requires
new_blocks-requires c = addresses_few c.requires.0 c.requires.1 c.args.parts.now c.requires.2 c.args.next.now c.requires.3 c.requires.4

pub add_rope-requires-clause-unknown : goal.add_rope-requires-clause-unknown
add_rope-requires-clause-unknown c =
    ap (λ l. rope_of l c.args.next.now.id) c.in_ok-after.ensures.alike.ropes ∙ unknown c.requires.0 c.requires.1 c.args.parts.now c.requires.2 c.args.next.now c.requires.3 c.requires.4

pub add_rope-requires-clause-pairs : goal.add_rope-requires-clause-pairs
add_rope-requires-clause-pairs c =
    let alike = c.in_ok-after.ensures.alike in
    let most = blocks_few c.requires.0 c.requires.1 c.args.parts.now c.in_ok-after.after.ropes c.requires.2 c.requires.4.runs.kept alike.block alike.uses c.args.next.now c.requires.3 c.requires.4 in
    let same = ap (new_pairs c.in_ok-after.after.ropes) c.in_ok-pieces.ensures in
    let room = c.in_ok-after.ensures.spare_pairs in
    let count = c.new_blocks.ensures in
    omega (arith, most, same, room, count)

pub add_rope-requires-clause-fits : goal.add_rope-requires-clause-fits
add_rope-requires-clause-fits c = λ pair e.
    let alike = c.in_ok-after.ensures.alike in
    let uses = alike.uses pair in
    let fits = c.requires.4.fits pair (ap (λ ps. has_pair (pairs_at c.args.parts.now.ropes.block (spots_of ps)) pair) (sym c.in_ok-pieces.ensures) ∙ ap (λ n. has_pair (pairs_at n (spots_of c.in_ok-pieces.pieces)) pair) (sym alike.block) ∙ e) in
    omega (arith, uses, fits)

pub returns : goal.returns
returns c = λ held takings b change h s.
    let alike = c.in_ok-after.ensures.alike in
    let number = h.number in
    let same = alike_shows held b.kept c.args.parts.now c.in_ok-after.after alike h.runs.kept in
    came held takings c.args.parts.now c.in_ok-after.after c.add_rope.new.self b c.args.next.now change h same alike.form alike.holders c.add_rope.ensures.form (ap (λ blocks. blocks.holders) c.add_rope.ensures.blocks)
    (c.add_rope.ensures.shows held b.form b.kept (new_samples change) same (orderly_rebuilt b h.runs.valid) (omega (arith, number))
    (c.in_ok-pieces.ensures ∙ h.pieces) (ap (λ (shape : Shape). shape.graces.common) (sym s)))
