use Rattle.std.proofs.Common.{◌≡◌, length}
use Rattle.playing.proofs.Bringing.{IsUnderway}
use Rattle.playing.proofs.frames.Frames.bring_in.Given as goal

abbrev pub invariant-loop-k : goal.invariant-loop-k
invariant-loop-k g l = (length l.found ≡ 4) × IsUnderway l.shape l.blocks.holders l.window l.found l.k l.initial.self l.self (g.D.Disk.told l.initial.disk) (g.D.Disk.told l.disk)
