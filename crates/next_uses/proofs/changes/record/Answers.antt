use Rattle.std.proofs.Common.{[], arith}
use Rattle.next_ropes.specs.Ready.{next_change}
use Rattle.next_uses.proofs.changes.record.Goals as goal

pub ready_recording-requires-clause-parts : goal.ready_recording-requires-clause-parts
ready_recording-requires-clause-parts c = record { held = []; takings = []; what = c.requires.what; runs = c.requires.runs; in_shape = c.requires.in_shape }

pub returns-in_default : goal.returns-in_default
returns-in_default c = record { what = c.requires.what; runs = c.in_default.ensures.err [] [] c.requires.what c.requires.runs; in_shape = c.requires.in_shape }

pub returns : goal.returns
returns c =
    let b = c.requires.what in
    record { b = b; c = next_change b.form c.in-Ok.rope; next = (c.in-Ok.ensures.ready [] [] b c.requires.runs (omega arith) c.requires.in_shape).0; in_shape = c.requires.in_shape }
