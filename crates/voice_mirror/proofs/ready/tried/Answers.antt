use Rattle.std.proofs.Common.{Ok, refl, sym, ap, subst, ◌∙◌}
use Rattle.voice_model.specs.Replay.{acted}
use Rattle.mirror_tables.specs.declared.beside.Beside.{Beside}
use Rattle.mirror_tables.proofs.Alike.{same_parts}
use Rattle.mirror_tables.specs.Beside.{IsBeside}
use Rattle.voice_mirror.specs.declared.inside.Inside.{Inside}
use Rattle.voice_mirror.specs.Shown.{state_of}
use Rattle.voice_mirror.proofs.Planning.{tried_goes, tried_same, in_shape_of, if_ok, not_false, not_err}
use Rattle.voice_mirror.proofs.ready.tried.Goals as goal

pub try_change-requires-clause-tables : goal.try_change-requires-clause-tables
try_change-requires-clause-tables c = same_parts c.shape-shape.result c.args.inside.now.parts c.args.tables (in_shape_of c.shape-shape.result c.args.inside.now.journal.shape c.args.inside.now.parts c.shape-shape.ensures c.requires.parts) c.requires.same

pub settle_on-requires-clause-shown : goal.settle_on-requires-clause-shown
settle_on-requires-clause-shown c =
    let of_parts = in_shape_of c.shape-shape.result c.args.inside.now.journal.shape c.args.inside.now.parts c.shape-shape.ensures c.requires.parts in
    (acted of_parts.what c.args.change, c.try_change.ensures.done of_parts.what (c.requires.same of_parts.what of_parts.shows) of_parts.in_shape (c.in-Ok-true.is ∙ ap Ok c.in-Ok-true.field-0-test))

pub returns-in-Ok-true-clause-readied : goal.returns-in-Ok-true-clause-readied
returns-in-Ok-true-clause-readied c =
    if_ok c.settle_on.result (λ r readied.
    tried_goes c.shape-shape.result c.args.inside.now.parts c.args.tables c.try_change.new.tables c.args.change c.requires.same c.try_change.result c.try_change.ensures (c.in-Ok-true.is ∙ ap Ok c.in-Ok-true.field-0-test)
    (state_of c.args.inside.now) refl (sym c.shape-shape.ensures) c.args.number r readied) c.settle_on.ensures

pub returns-in-Ok-false-clause-beside : goal.returns-in-Ok-false-clause-beside
returns-in-Ok-false-clause-beside c =
    let of_parts = in_shape_of c.shape-shape.result c.args.inside.now.journal.shape c.args.inside.now.parts c.shape-shape.ensures c.requires.parts in
    subst (λ (x : Beside). IsBeside c.args.inside.now.journal.shape c.args.inside.now.parts x) (sym (ap (λ (i : Inside). i.beside) c.gave_up.ensures))
    (tried_same c.shape-shape.result c.args.inside.now.parts c.args.tables c.try_change.new.tables c.args.change c.requires.same of_parts c.try_change.result c.try_change.ensures (λ e. not_false (sym (c.in-Ok-false.is ∙ ap Ok c.in-Ok-false.field-0-test) ∙ e)))

pub returns-in-Err-clause-beside : goal.returns-in-Err-clause-beside
returns-in-Err-clause-beside c =
    let of_parts = in_shape_of c.shape-shape.result c.args.inside.now.journal.shape c.args.inside.now.parts c.shape-shape.ensures c.requires.parts in
    subst (λ (x : Beside). IsBeside c.args.inside.now.journal.shape c.args.inside.now.parts x) (sym (ap (λ (i : Inside). i.beside) c.gave_up-in-Err.ensures))
    (tried_same c.shape-shape.result c.args.inside.now.parts c.args.tables c.try_change.new.tables c.args.change c.requires.same of_parts c.try_change.result c.try_change.ensures (λ e. not_err _ (sym c.in-Err.is ∙ e)))
