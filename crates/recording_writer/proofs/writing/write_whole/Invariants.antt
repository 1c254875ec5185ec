use Rattle.std.proofs.Common.{length, ◌-◌}
use Rattle.recording_writer.proofs.Stages.{Stage}
use Rattle.recording_writer.proofs.writing.write_whole.Given as goal

abbrev pub invariant-loop-at : goal.invariant-loop-at
invariant-loop-at g l = Stage l.shape l.addresses l.bytes l.at (g.D.Disk.told l.fn.disk) (g.D.Disk.told l.disk)

abbrev pub decreases-loop-at : goal.decreases-loop-at
decreases-loop-at g l = length l.addresses - l.at
