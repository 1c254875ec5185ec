use Rattle.std.proofs.Common.{[], sym, ◌∙◌, subst}
use Rattle.std.specs.Prelude.{IfOk}
use Rattle.voice_units.specs.declared.shapes.Shape.{Shape}
use Rattle.voice_model.specs.Replay.{acted}
use Rattle.running_tables.proofs.Quiet.{spelled}
use Rattle.voice_store.proofs.OnItsWay.{going_again, on_its_way}
use Rattle.voice_store.specs.Trying.{IsBaseOf}
use Rattle.recovery.proofs.Rebuilding.{acted_shape}
use Rattle.voice_store.proofs.inside.Inside.base_after.Goals as goal

pub tables_after-requires : goal.tables_after-requires
tables_after-requires c = going_again c.args.self.now.journal.shape c.shape-shape.result c.args.self.now.parts c.args.going.now c.shape-shape.ensures c.requires

pub base_of-requires : goal.base_of-requires
base_of-requires c =
    let r = c.requires in
    (acted r.b r.c, spelled r.held [] r.more c.in_ok-after.after (acted r.b r.c) (c.in_ok-after.ensures r.held r.takings r.more r.b r.c r.ready (r.in_shape ∙ sym c.shape-shape.ensures)))

pub returns : goal.returns
returns c =
    λ held takings more b c' ready shape.
    let here = shape ∙ sym c.shape-shape.ensures in
    subst (λ (x : Shape). IfOk c.base_of.result (IsBaseOf x (acted b c'))) c.shape-shape.ensures
    (c.base_of.ensures (acted b c') (spelled held [] more c.in_ok-after.after (acted b c') (c.in_ok-after.ensures held takings more b c' ready here)) (acted_shape b c' ∙ here))
