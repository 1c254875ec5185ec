use Rattle.voice_outside.proofs.CallsOfNothing.{nothing_read}
use Rattle.voice_outside.proofs.no_disk.NoDiskDisk.read.Goals as goal

pub returns-clause-content : goal.returns-clause-content
returns-clause-content c =
    λ honest. nothing_read c.args.self.now.calls c.count.new.self.calls c.args.self.now.faults c.count.new.self.faults c.args.at c.args.into.now c.count.result c.requires
