use Rattle.std.proofs.Common.{sym}
use Rattle.mirror_packets.proofs.Found.{other_change, this_change}
use Rattle.mirror_packets.proofs.reading.change_in.Goals as goal

pub returns-then-not-is_followed : goal.returns-then-not-is_followed
returns-then-not-is_followed c = other_change c.args.body.now c.in-Ok.change c.in-Ok.ensures.ok (sym c.if-not-is_followed.ensures)

pub returns : goal.returns
returns c = this_change c.args.body.now c.in-Ok.change c.in-Ok.ensures.ok (sym c.if-not-is_followed.ensures)
