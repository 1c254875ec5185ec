-- Each of good packets is good.
use Rattle.std.proofs.Common.{◌≡◌, ℕ, zero, suc, ◌<◌, List, [], ◌∷◌, length, get_or, sym, subst, arith}
use Rattle.mirror_packets.specs.Packets.{IsGoodPacket, AreGood}
use Rattle.mirror_packets.specs.Shown.{packet_of, packets_of}
use Rattle.mirror_packets.specs.declared.packets.Packet.{Packet}

pub good_at : (ps : List Packet) (i : ℕ) (p : Packet) → AreGood (packets_of ps) → i < length ps → p ≡ get_or ps i p → IsGoodPacket (packet_of p)
good_at [] i p good lt e = absurd (omega (arith, lt))
good_at (q ∷ ps) zero p good lt e = subst (λ x. IsGoodPacket (packet_of x)) (sym e) good.0
good_at (q ∷ ps) (suc i) p good lt e = good_at ps i p good.1 (omega (arith, lt)) e
