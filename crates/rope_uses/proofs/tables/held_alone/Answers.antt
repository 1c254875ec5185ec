use Rattle.std.proofs.Common.{◌≡◌, Some, [], ◌∷◌, ap, ◌∙◌}
use Rattle.rope_table.specs.Table.{pieces_at}
use Rattle.rope_table.proofs.Checked.{used_by_rope}
use Rattle.rope_uses.proofs.tables.held_alone.Goals as goal

pub hold-requires-clause-used : goal.hold-requires-clause-used
hold-requires-clause-used c = λ q has.
    let is : Some c.in_ok-passage.passage ≡ pieces_at c.args.table.now.ropes c.args.id = ap Some c.in_ok-passage.ensures ∙ c.in-Some.ensures in
    used_by_rope c.args.table.now c.args.id c.in_ok-passage.passage q c.block-block.ensures.laws is has

pub returns : goal.returns
returns c = c.remove-pieces.ensures.counts (c.in_ok-passage.passage ∷ []) (c.hold.ensures.counts [] c.requires.none)
