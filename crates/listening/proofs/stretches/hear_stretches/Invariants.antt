use Rattle.std.proofs.Common.{◌≡◌, ◌-◌, length}
use Rattle.voice_units.specs.Spots.{samples_in}
use Rattle.listening.proofs.Walking.{IsUnderway}
use Rattle.listening.proofs.stretches.hear_stretches.Given as goal

abbrev pub invariant-loop-stretch : goal.invariant-loop-stretch
invariant-loop-stretch g l = record {
  underway : IsUnderway g.E.Ear.knows g.E.Ear.limit l.shape l.blocks.holders l.pieces l.at l.initial.ear l.ear (g.D.Disk.told l.initial.disk) (g.D.Disk.told l.disk);
  none : samples_in l.pieces ≡ 0 → l.disk ≡ l.initial.disk;
  room : length l.room ≡ l.shape.block;
}

abbrev pub decreases-loop-stretch : goal.decreases-loop-stretch
decreases-loop-stretch g l = samples_in l.pieces - l.at
