use Rattle.std.proofs.Common.{arith}
use Rattle.turnstile.proofs.Draws.{draws_as}
use Rattle.turnstile.proofs.table.Gate.draw.Goals as goal

pub fetch_add-requires : goal.fetch_add-requires
fetch_add-requires g c =
    let s = c.args.self.now.sizes in
    (c.requires.of.table, omega arith, draws_as g.T.Stands.origin g.T.Stands.history g.T.Stands.stands c.args.self.now.table.shared.key c.args.self.now.table.shared.table_id.slots c.args.seat.now.id c.args.seat.now.me c.requires.outside.0)
