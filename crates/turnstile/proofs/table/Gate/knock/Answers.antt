use Rattle.std.proofs.Common.{◌+◌, ◌%◌, arith}
use Rattle.turnstile.proofs.Knocks.{knocks}
use Rattle.turnstile.proofs.table.Gate.knock.Goals as goal

pub fetch_add-requires : goal.fetch_add-requires
fetch_add-requires g c =
    let s = c.args.self.now.sizes in
    let door = c.requires.door in
    (c.requires.of.table, omega (arith, door.1), knocks g.T.Stands.origin g.T.Stands.history g.T.Stands.stands c.args.self.now.table.shared.key c.args.self.now.table.shared.table_id.slots c.args.seat.now.id c.args.seat.now.me c.args.door (λ n. (n + 1) % 18446744073709551616) door.0)
