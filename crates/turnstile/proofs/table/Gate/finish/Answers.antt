use Rattle.std.proofs.Common.{ap, ◌∙◌}
use mathlib.Core.Option.{some}
use Rattle.turnstile.proofs.Closes.{ends_full, ends_with}
use Rattle.turnstile.proofs.table.Gate.finish.Goals as goal

pub unreachable-requires : goal.unreachable-requires
unreachable-requires g c =
    ends_full g.T.Stands.origin g.T.Stands.history g.T.Stands.stands c.args.self.table.shared.key c.args.lead.id c.args.lead.me.0 _ _ c.close_with-closed.ensures.values.2 c.requires.of.1.0 c.requires.all (c.take-slot.ensures.value ∙ ap some c.in_default.is)

pub returns-clause-value : goal.returns-clause-value
returns-clause-value g c =
    let r = ends_with g.T.Stands.origin g.T.Stands.history g.T.Stands.stands c.args.self.table.shared.key c.args.lead.id c.args.lead.me.0 _ _ c.in-Some.value c.close_with-closed.ensures.values.2 c.requires.of.1.0 c.requires.all (c.take-slot.ensures.value ∙ ap some c.in-Some.is) in
    (r.0, r.1, r.2, r.3)

pub returns-clause-own : goal.returns-clause-own
returns-clause-own g c =
    let r = ends_with g.T.Stands.origin g.T.Stands.history g.T.Stands.stands c.args.self.table.shared.key c.args.lead.id c.args.lead.me.0 _ _ c.in-Some.value c.close_with-closed.ensures.values.2 c.requires.of.1.0 c.requires.all (c.take-slot.ensures.value ∙ ap some c.in-Some.is) in
    r.4

pub returns-clause-olds : goal.returns-clause-olds
returns-clause-olds g c =
    let r = ends_with g.T.Stands.origin g.T.Stands.history g.T.Stands.stands c.args.self.table.shared.key c.args.lead.id c.args.lead.me.0 _ _ c.in-Some.value c.close_with-closed.ensures.values.2 c.requires.of.1.0 c.requires.all (c.take-slot.ensures.value ∙ ap some c.in-Some.is) in
    r.5
