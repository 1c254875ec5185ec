use Rattle.std.proofs.Common.{arith}
use Rattle.turnstile.proofs.Tells.{tells_as}
use Rattle.turnstile.proofs.table.Gate.tell.Goals as goal

pub fetch_add-requires : goal.fetch_add-requires
fetch_add-requires g c =
    let s = c.args.self.now.sizes in
    let f = c.requires.full in
    (c.requires.of.table, omega arith, tells_as g.T.Stands.origin g.T.Stands.history g.T.Stands.stands c.args.self.now.table.shared.key c.args.self.now.table.shared.table_id.slots c.args.seat.now.id c.args.seat.now.me f.0 f.5.0 c.args.entries f.1 f.2 f.3 f.4 f.5.1 f.5.2 f.5.3)
