use Rattle.std.proofs.Common.{◌≡◌, [], Some, ◌∙◌, ap, arith}
use Rattle.voice_model.specs.declared.changes.Change.TheVariants as changes
use Rattle.rope_table.specs.Table.{pieces_at}
use Rattle.rope_table.proofs.Checked.{used_by_rope}
use Rattle.next_uses.proofs.ropes.copy_first.Goals as goal

pub ready_edit-requires-clause-parts : goal.ready_edit-requires-clause-parts
ready_edit-requires-clause-parts c = ([], [], c.requires.what, c.requires.runs)

pub ready_edit-requires-clause-used : goal.ready_edit-requires-clause-used
ready_edit-requires-clause-used c = λ q has.
    let is : Some c.in-Ok.pieces ≡ pieces_at c.args.parts.now.ropes.ropes 1 = ap Some c.in-Ok.ensures ∙ c.in-Some.ensures in
    let uses = c.requires.runs.kept.uses q in
    let some = used_by_rope c.args.parts.now.ropes 1 c.in-Ok.pieces q c.block-block.ensures.laws is has in
    omega (arith, uses, some)

pub returns-in_default-ready_edit : goal.returns-in_default-ready_edit
returns-in_default-ready_edit c = record { what = c.requires.what; runs = c.ready_edit.ensures.same [] [] c.requires.what c.requires.runs; in_shape = c.requires.in_shape }

pub finish-requires : goal.finish-requires
finish-requires c =
    let b = c.requires.what in
    (b, changes.Edited b.next c.in-Ok.pieces, c.in-Ok-ready_edit.ensures.ready [] [] b c.requires.runs (omega arith), c.requires.in_shape)
