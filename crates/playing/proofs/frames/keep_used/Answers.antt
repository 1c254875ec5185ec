use Rattle.std.proofs.Common.{arith}
use Rattle.playing.specs.Frames.{uses_of}
use Rattle.playing.proofs.Forgotten.{all_used}
use Rattle.playing.proofs.frames.keep_used.Goals as goal

pub returns : goal.returns
returns c = all_used (uses_of c.args.ropes.now) c.loop-k.k c.args.resident.now.items c.loop-k.resident.items c.loop-k.invariant (omega arith)
