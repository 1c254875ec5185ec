use Rattle.std.proofs.Common.{arith}
use Rattle.turnstile.proofs.Looks.{looks_as}
use Rattle.turnstile.proofs.table.Gate.look.Goals as goal

pub load-found-requires : goal.load-found-requires
load-found-requires g c =
    let s = c.args.self.now.sizes in
    (c.requires.of.table, omega arith, looks_as g.T.Stands.origin g.T.Stands.history g.T.Stands.stands c.args.self.now.table.shared.key c.args.self.now.table.shared.table_id.slots c.args.seat.now.id c.args.seat.now.me c.requires.waits.0 c.requires.waits.1)
