use Rattle.voice_disk.proofs.Stopped.{write_stopped}
use Rattle.voice_disk.proofs.fuse.FuseDiskDisk.write.Goals as goal

pub returns-then-self-eq0-clause-content : goal.returns-then-self-eq0-clause-content
returns-then-self-eq0-clause-content c =
    λ honest. write_stopped c.args.self.now c.refuse.new.self.inner c.refuse.new.self.calls c.refuse.new.self.faults c.args.at c.args.bytes.now _ c.refuse.ensures.inner c.refuse.ensures.later
