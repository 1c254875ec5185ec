use Rattle.std.proofs.Common.{refl}
use Rattle.mirror_packets.proofs.Found.{no_end, no_body, packet_found}
use Rattle.mirror_packets.proofs.reading.packet_in.Goals as goal

pub returns-in_default-clause-bad : goal.returns-in_default-clause-bad
returns-in_default-clause-bad c = (no_end c.args.rest.now c.end_in.result c.end_in.ensures c.in_default.not-Some, refl)

pub returns-in_default-found-clause-bad : goal.returns-in_default-found-clause-bad
returns-in_default-found-clause-bad c = (no_body c.args.rest.now c.in-Some.end c.in-Ok.found c.in-Some.ensures c.in-Ok.ensures c.in_default-found.not-Some, refl)

pub returns-clause-found : goal.returns-clause-found
returns-clause-found c = record {
  packet = packet_found c.args.rest.now c.in-Some.end c.read_8.result c.in-Ok.found c.in-Some-found.body c.in-Some.ensures c.read_8.ensures c.in-Ok.ensures c.in-Some-found.is;
  end = c.in-Some.ensures;
}
