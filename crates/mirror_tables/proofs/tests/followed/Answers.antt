use Rattle.std.proofs.Common.{true, Result, Ok, Err, ◌∙◌, ap}
use Rattle.std.specs.Prelude.{OnOk}
use Rattle.voice_model.specs.Replay.{is_legal}
use Rattle.recovery.proofs.Rebuilding.{told, parts_after}
use Rattle.mirror_tables.proofs.tests.followed.Goals as goal

pub brought_up-requires-clause-parts : goal.brought_up-requires-clause-parts
brought_up-requires-clause-parts c = parts_after c.args.shape.now c.args.parts.now c.try_change.new.tables c.args.change c.try_change.result c.requires.parts c.try_change.ensures.done c.try_change.ensures.same

pub brought_up-requires-clause-beside : goal.brought_up-requires-clause-beside
brought_up-requires-clause-beside c =
    let was = c.requires.parts.what in
    let shows = c.requires.parts.shows in
    let shape = c.requires.parts.in_shape in
    let ok = c.in-Ok-true.is ∙ ap Ok c.in-Ok-true.field-0-test in
    record {
      was = was;
      shows = c.requires.same was shows;
      in_shape = shape;
      grammar = c.requires.grammar;
      kind = c.requires.kind;
      legal = told true (is_legal was c.args.change) c.try_change.result (c.try_change.ensures.legal was shows shape) ok;
      acted = c.try_change.ensures.done was shows shape ok;
    }

pub brought_up-requires-2-clause-parts : goal.brought_up-requires-2-clause-parts
brought_up-requires-2-clause-parts c = parts_after c.args.shape.now c.args.parts.now c.try_change.new.tables c.args.change c.try_change.result c.requires.parts c.try_change.ensures.done c.try_change.ensures.same

on_ok : {T E P : Type 0} (result : Result T E) → P → OnOk result P
on_ok (Ok x) p = p
on_ok (Err e) p = tt

pub returns-clause-parts : goal.returns-clause-parts
returns-clause-parts c = on_ok _ (parts_after c.args.shape.now c.args.parts.now c.try_change.new.tables c.args.change c.try_change.result c.requires.parts c.try_change.ensures.done c.try_change.ensures.same)
