use Rattle.std.proofs.Common.{[], arith}
use Rattle.next_ropes.specs.Ready.{next_change}
use Rattle.next_uses.proofs.ropes.record.Goals as goal

pub ready_recording-requires-clause-parts : goal.ready_recording-requires-clause-parts
ready_recording-requires-clause-parts c = record { held = []; takings = []; what = c.requires.what; runs = c.requires.runs; in_shape = c.requires.in_shape }

pub returns-in_default : goal.returns-in_default
returns-in_default c = record { what = c.requires.what; runs = c.in_default.ensures.err [] [] c.requires.what c.requires.runs; in_shape = c.requires.in_shape }

pub finish-requires : goal.finish-requires
finish-requires c =
    let b = c.requires.what in
    (b, next_change b.form c.in-Ok.next, (c.in-Ok.ensures.ready [] [] b c.requires.runs (omega arith) c.requires.in_shape).0, c.requires.in_shape)
