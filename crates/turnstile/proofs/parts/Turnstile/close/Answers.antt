use Rattle.std.proofs.Common.{ℕ, List, [], ◌∷◌, ◌∙◌, length, sym, ap, subst, arith, length-append}
use Rattle.voice_model.specs.declared.calls.Entry.{Entry}
use Rattle.turnstile.specs.declared.view.Old.{Old}
use Rattle.turnstile.specs.Shown.{ShownTurnstile, ShownPass}
use Rattle.turnstile.specs.Turns.{StandsIn, Every}
use Rattle.turnstile.specs.Passes.{AreOf, AllStandIn}
use Rattle.turnstile.specs.Seats.{gathered}
use Rattle.turnstile.specs.Gates.{shown_turnstile}
use Rattle.turnstile.proofs.Many.{each_of, all_stand, gathered_all, gathered_long, olds_after, seat_of_pass, seat_outside}
use Rattle.turnstile.proofs.parts.Turnstile.close.Goals as goal

pub finish-requires-clause-all : goal.finish-requires-clause-all
finish-requires-clause-all g c κs within =
    let rest = c.pop.new.self.items in
    let base = c.lead.inside.seat.me.0.olds in
    let e = ap length (olds_after c.gather.new.lead.me c.lead.inside.seat.me.0 (gathered base rest) c.gather.ensures.all).0 in
    let n = ap length c.in-Some.ensures.items in
    let long = gathered_long base rest in
    let all = c.requires.all in
    let callers = ap (λ (t : ShownTurnstile g.row.T.Denot). t.callers) c.self.view_is in
    omega (arith, length-append rest (c.in-Some.lead ∷ []))

pub gather-requires-clause-lead : goal.gather-requires-clause-lead
gather-requires-clause-lead g c κs within =
    let t = shown_turnstile c.self.inside.gate in
    let lead = c.in-Some.lead in
    let of = each_of t c.args.passes.items c.pop.new.self.items lead (subst (λ (t : ShownTurnstile g.row.T.Denot). AreOf t c.args.passes.items) (sym c.self.view_is) c.requires.of) c.in-Some.ensures.items in
    (seat_of_pass c.self.inside.gate c.lead.inside.caller c.lead.inside.seat lead c.lead.view_is of.1, seat_outside c.lead.inside.caller c.lead.inside.seat lead c.lead.view_is c.lead.invariant of.2)

pub gather-requires-clause-of : goal.gather-requires-clause-of
gather-requires-clause-of g c κs within =
    let t = shown_turnstile c.self.inside.gate in
    (each_of t c.args.passes.items c.pop.new.self.items c.in-Some.lead (subst (λ (t : ShownTurnstile g.row.T.Denot). AreOf t c.args.passes.items) (sym c.self.view_is) c.requires.of) c.in-Some.ensures.items).0

pub returns-clause-passes : goal.returns-clause-passes
returns-clause-passes g c =
    let t = shown_turnstile c.self.inside.gate in
    let h = g.T.Stands.history in
    let rest = c.pop.new.self.items in
    let lead = c.in-Some.lead in
    let seat = c.lead.inside.seat in
    let start = h t.made_with in
    let log = h c.finish.result in
    let o = olds_after c.gather.new.lead.me seat.me.0 (gathered seat.me.0.olds rest) c.gather.ensures.all in
    let v = c.lead.view_is in
    let olds = gathered_all (λ (o : Old). StandsIn start log o.caller o.seen o.mine) seat.me.0.olds rest (subst (Every (λ (o : Old). StandsIn start log o.caller o.seen o.mine)) o.0 c.finish.ensures.olds) in
    let by = o.3 ∙ c.lead.invariant.caller ∙ ap (λ (p : ShownPass g.row.T.Denot). p.caller) v in
    let seen = o.1 ∙ ap (λ (p : ShownPass g.row.T.Denot). p.seen) v in
    let mine = o.2 ∙ ap (λ (p : ShownPass g.row.T.Denot). p.mine) v in
    let own : StandsIn start log lead.caller lead.seen lead.mine =
    subst (λ (by : ℕ). StandsIn start log by lead.seen lead.mine) by
    (subst (λ (x : List Entry). StandsIn start log c.gather.new.lead.me.0.caller x lead.mine) seen
    (subst (λ (x : List Entry). StandsIn start log c.gather.new.lead.me.0.caller c.gather.new.lead.me.0.seen x) mine c.finish.ensures.own)) in
    subst (λ (t : ShownTurnstile g.row.T.Denot). AllStandIn h t c.finish.result c.args.passes.items) c.self.view_is
    (all_stand h t c.finish.result c.args.passes.items rest lead c.in-Some.ensures.items olds own)
