use Rattle.std.proofs.Common.{arith}
use Rattle.turnstile.proofs.Leaves.{leaves_as}
use Rattle.turnstile.proofs.table.Gate.pass_on.Goals as goal

pub fetch_add-served-requires : goal.fetch_add-served-requires
fetch_add-served-requires g c =
    let s = c.args.self.now.sizes in
    (c.requires.of.table, omega arith, leaves_as g.T.Stands.origin g.T.Stands.history g.T.Stands.stands c.args.self.now.table.shared.key c.args.self.now.table.shared.table_id.slots c.args.seat.now.id c.args.seat.now.me c.requires.told.0 c.requires.told.1)
