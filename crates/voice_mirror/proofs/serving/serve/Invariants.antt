use Rattle.std.proofs.Common.{take}
use Rattle.mirror_packets.specs.Shown.{packets_of}
use Rattle.voice_mirror.proofs.Served.{Serving}
use Rattle.voice_mirror.proofs.serving.serve.Given as goal

abbrev pub invariant-loop-packet : goal.invariant-loop-packet
invariant-loop-packet g l = Serving (g.D.Disk.told l.fn.disk) (g.D.Disk.told l.disk) l.fn.inside l.inside (packets_of (take l.packet-index l.packets)) l.answers.items
