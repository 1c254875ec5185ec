use Rattle.std.proofs.Common.{◌≡◌, replicate}
use Rattle.frame_pool.proofs.frames.blank_frames.Given as goal

abbrev pub invariant-loop : goal.invariant-loop
invariant-loop l = l.frames.items ≡ replicate l.counter (replicate l.block 0)
