use Rattle.std.proofs.Common.{◌≡◌, ◌++◌}
use Rattle.mirror_packets.specs.Shown.{packets_of}
use Rattle.mirror_commands.specs.Texts.{packet_lines}
use Rattle.mirror_commands.proofs.texts.text_of.Given as goal

abbrev pub invariant-loop-packet : goal.invariant-loop-packet
invariant-loop-packet l = packet_lines (packets_of l.packets) l.answers ≡ l.text.items ++ packet_lines (packets_of l.packet-iterator.a.rest.now) l.packet-iterator.b.rest.now
