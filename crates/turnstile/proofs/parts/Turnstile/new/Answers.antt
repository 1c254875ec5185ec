use Rattle.turnstile.specs.Seats.{shown_pass}
use Rattle.turnstile.specs.Gates.{shown_turnstile}
use Rattle.turnstile.proofs.Many.{put_first, lead_is_new}
use Rattle.turnstile.proofs.parts.Turnstile.new.Goals as goal

pub returns-in-Ok-alone-clause-of : goal.returns-in-Ok-alone-clause-of
returns-in-Ok-alone-clause-of g c =
    let h = g.T.Stands.history in
    let gate = c.in-Ok-alone.gate in
    let lead = c.deal.new.lead in
    put_first h (shown_turnstile gate) c.deal.new.passes.items c.put_first.new.passes.items c.first_pass.result (shown_pass 1 lead) c.put_first.ensures c.first_pass.ensures (lead_is_new h gate _ lead c.deal.ensures.lead gate.some.0) c.deal.ensures.passes
