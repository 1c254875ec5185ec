use Rattle.voice_outside.proofs.CallsOfNothing.{nothing_written}
use Rattle.voice_outside.proofs.no_disk.NoDiskDisk.write.Goals as goal

pub returns-clause-content : goal.returns-clause-content
returns-clause-content c =
    λ honest. nothing_written c.args.self.now.calls c.count.new.self.calls c.args.self.now.faults c.count.new.self.faults c.args.at c.args.bytes.now c.count.result c.requires
