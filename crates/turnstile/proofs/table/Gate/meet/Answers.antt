use Rattle.std.proofs.Common.{arith}
use Rattle.turnstile.proofs.Joins.{joins}
use Rattle.turnstile.proofs.Many.{seat_of_pass, seat_outside}
use Rattle.turnstile.proofs.table.Gate.meet.Goals as goal

pub join_seat-requires : goal.join_seat-requires
join_seat-requires g c =
    let s = c.args.self.now.sizes in
    let l = c.requires.lead in
    let other = c.other.inside.seat in
    let of = seat_of_pass c.args.self.now c.other.inside.caller other c.args.other c.other.view_is c.requires.other.0 in
    let out = seat_outside c.other.inside.caller other c.args.other c.other.view_is c.other.invariant c.requires.other.1 in
    (l.0.table, of.table, out.1, omega arith, joins g.T.Stands.origin g.T.Stands.history g.T.Stands.stands c.args.self.now.table.shared.key c.args.lead.now.id c.args.lead.now.me.0 other.id other.me.0 l.1.0 out.0)
