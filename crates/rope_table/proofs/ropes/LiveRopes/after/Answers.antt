use Rattle.std.proofs.Common.{ap, sym, ◌∙◌}
use Rattle.std.specs.Prelude.{option_map}
use Rattle.rope_table.specs.declared.ropes.Rope.{Rope}
use Rattle.rope_table.specs.Table.{number_above}
use Rattle.rope_table.specs.Inside.{Ropes}
use Rattle.rope_table.proofs.ById.{above_at_place}
use Rattle.rope_table.proofs.ropes.LiveRopes.after.Goals as goal

pub returns-in_default : goal.returns-in_default
returns-in_default c =
    sym (ap (λ (v : Ropes). number_above v.ropes c.args.id) (sym c.self.view_is)
    ∙ above_at_place c.args.id c.self.inside.ropes.items
    ∙ ap (option_map (λ (rope : Rope). rope.id)) (sym c.in_default.ensures))

pub returns : goal.returns
returns c =
    sym (ap (λ (v : Ropes). number_above v.ropes c.args.id) (sym c.self.view_is)
    ∙ above_at_place c.args.id c.self.inside.ropes.items
    ∙ ap (option_map (λ (rope : Rope). rope.id)) (sym c.in-Some.ensures))
