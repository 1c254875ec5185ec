use Rattle.std.proofs.Common.{arith}
use Rattle.voice_audit.proofs.Told.{numbers_some, free_within}
use Rattle.voice_audit.proofs.telling.told.Goals as goal

pub shared_count-requires : goal.shared_count-requires
shared_count-requires c = numbers_some c.args.parts.now c.requires.what c.requires.shows

pub put_ropes-requires : goal.put_ropes-requires
put_ropes-requires c = numbers_some c.args.parts.now c.requires.what c.requires.shows

pub overflow_sub-shape : goal.overflow_sub-shape
overflow_sub-shape c =
    let within = free_within c.args.parts.now c.requires.what c.args.shape.now c.requires.shows c.requires.in_shape in
    omega (arith, within, c.free-free.ensures)
