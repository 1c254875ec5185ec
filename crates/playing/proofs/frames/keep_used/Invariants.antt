use Rattle.playing.proofs.Forgotten.{IsHalfUsed}
use Rattle.playing.specs.Frames.{uses_of}
use Rattle.playing.proofs.frames.keep_used.Given as goal

abbrev pub invariant-loop-k : goal.invariant-loop-k
invariant-loop-k l = IsHalfUsed (uses_of l.ropes) l.k l.initial.resident.items l.resident.items
