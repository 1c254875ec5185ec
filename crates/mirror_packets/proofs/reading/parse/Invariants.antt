use Rattle.std.proofs.Common.{length}
use Rattle.mirror_packets.specs.Shown.{packets_of}
use Rattle.mirror_packets.proofs.Lists.{IsRead}
use Rattle.mirror_packets.proofs.reading.parse.Given as goal

abbrev pub invariant-loop-rest : goal.invariant-loop-rest
invariant-loop-rest l = IsRead l.bytes (packets_of l.packets.items) l.rest

abbrev pub decreases-loop-rest : goal.decreases-loop-rest
decreases-loop-rest l = length l.rest
