use Rattle.crash_laws.proofs.Spared.{distinct_at}
use Rattle.voice_mirror.proofs.Bodies.{spares_in}
use Rattle.voice_mirror.proofs.taking.write.Goals as goal

pub write_samples-requires-clause-differ : goal.write_samples-requires-clause-differ
write_samples-requires-clause-differ g c = λ κs lives. distinct_at c.args.addresses.now c.requires.differ

pub returns-clause-spares : goal.returns-clause-spares
returns-clause-spares g c =
    λ honest b here used free.
    spares_in c.args.shape.now b here c.args.addresses.now free (g.D.Disk.told c.args.disk.now) (g.D.Disk.told c.write_samples.new.disk) used (c.write_samples.ensures.content honest)
