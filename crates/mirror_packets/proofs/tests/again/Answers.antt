use Rattle.std.proofs.Common.{sym, subst}
use Rattle.mirror_packets.specs.Packets.{AreGood}
use Rattle.mirror_packets.specs.Shown.{packets_of}
use Rattle.mirror_packets.proofs.Good.{good_at}
use Rattle.mirror_packets.proofs.tests.again.Goals as goal

pub put-requires : goal.put-requires
put-requires c =
    good_at c.deref-packet-items.result.now c.loop-packet.packet-index c.packet-item.result (subst (λ ps. AreGood (packets_of ps)) (sym c.deref-packet-items.ensures.value) c.in_ok-packets.ensures.spelled.good) c.loop-packet-test.true
    c.packet-item.is
