use Rattle.std.proofs.Common.{◌≡◌, [], ◌∷◌, refl, sym, ◌∙◌, subst, append-nil, arith}
use Rattle.std.proofs.lemmas.List.{nil_from_length}
use Rattle.turnstile.specs.Passes.{EachIsOf, IsOf, IsOutside}
use Rattle.turnstile.specs.Seats.{gathered}
use Rattle.turnstile.specs.Gates.{shown_turnstile}
use Rattle.turnstile.proofs.Many.{every_front, lead_after, met_after, met_all, joined_more, joined_all}
use Rattle.turnstile.proofs.table.Gate.gather.Goals as goal

pub loop-pass-init : goal.loop-pass-init
loop-pass-init g c = ([], sym (append-nil c.args.passes.items), refl, (λ i. (c.args.lead.now.me.0, c.requires.lead.1.1 i)), c.requires.of)

pub meet-requires-clause-lead : goal.meet-requires-clause-lead
meet-requires-clause-lead g c κs within =
    let i = c.loop-pass.invariant in
    lead_after c.args.self.now c.args.lead.now c.loop-pass.lead (gathered c.args.lead.now.me.0.olds i.0) i.2 i.3 c.requires.lead

pub meet-requires-clause-other : goal.meet-requires-clause-other
meet-requires-clause-other g c κs within =
    let i = c.loop-pass.invariant in
    let t = shown_turnstile c.args.self.now in
    (every_front (λ p. IsOf t p × IsOutside p) c.pop.new.self.items c.in-Some.pass (subst (EachIsOf t) c.in-Some.ensures.items i.4)).1

pub loop-pass-preserved : goal.loop-pass-preserved
loop-pass-preserved g c =
    let i = c.loop-pass.invariant in
    let e = c.meet.ensures in
    let t = shown_turnstile c.args.self.now in (
      c.in-Some.pass ∷ i.0,
      joined_more c.args.passes.items c.loop-pass.passes.items c.pop.new.self.items i.0 c.in-Some.pass i.1 c.in-Some.ensures.items,
      e.same ∙ i.2,
      met_after c.args.lead.now.me.0 c.loop-pass.lead.me c.meet.new.lead.me c.in-Some.pass (gathered c.args.lead.now.me.0.olds i.0) i.3 e.met,
      (every_front (λ p. IsOf t p × IsOutside p) c.pop.new.self.items c.in-Some.pass (subst (EachIsOf t) c.in-Some.ensures.items i.4)).0,
    )

pub returns-clause-same : goal.returns-clause-same
returns-clause-same g c = c.loop-pass.invariant.2

pub returns-clause-all : goal.returns-clause-all
returns-clause-all g c =
    let i = c.loop-pass.invariant in
    let z = c.in_default.ensures.cases in
    let o = c.loop-pass.passes.ok in
    let none : c.loop-pass.passes.items ≡ [] = nil_from_length c.loop-pass.passes.items (omega arith) in
    let all : c.args.passes.items ≡ i.0 = joined_all c.args.passes.items c.loop-pass.passes.items i.0 i.1 none in
    met_all c.args.lead.now.me.0 c.loop-pass.lead.me c.args.lead.now.me.0.olds i.0 c.args.passes.items i.3 all
