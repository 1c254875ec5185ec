use Rattle.std.proofs.Common.{◌≡◌, take}
use Rattle.std.specs.List.{flat_map}
use Rattle.frame_pool.specs.Pool.{stretch_in}
use Rattle.frame_pool.proofs.frames.copy_parts.Given as goal

abbrev pub invariant-loop-part : goal.invariant-loop-part
invariant-loop-part l = l.samples.items ≡ flat_map (stretch_in l.frames) (take l.part-index l.parts)
