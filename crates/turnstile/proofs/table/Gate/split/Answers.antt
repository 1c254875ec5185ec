use Rattle.std.proofs.Common.{◌≡◌, arith}
use Rattle.turnstile.proofs.Splits.{splits}
use Rattle.turnstile.proofs.table.Gate.split.Goals as goal

pub split_seat-seat-requires : goal.split_seat-seat-requires
split_seat-seat-requires g c =
    let s = c.args.self.now.sizes in
    let l = c.requires.lead in
    let r = c.requires.room in
    let m : c.args.lead.now.me.0.made ≡ c.args.made = l.made_is in
    (l.of.table, omega arith, splits g.T.Stands.origin g.T.Stands.history g.T.Stands.stands c.args.self.now.table.shared.key c.args.lead.now.id c.args.lead.now.me.0 l.outside.0 (omega arith) (omega arith))
