use Rattle.playing.specs.Frames.{uses_of}
use Rattle.playing.proofs.Forgotten.{kept_at, frames_forgot, bytes_forgot}
use Rattle.playing.proofs.frames.Frames.forget_unused.Goals as goal

pub invariant_of-self : goal.invariant_of-self
invariant_of-self c = frames_forgot (uses_of c.args.ropes.now) c.self.inside.keeper c.self.inside.resident.items c.keep_used.new.resident.items c.self.inside.readers.items _ c.self.invariant c.keep_used.ensures

pub returns-clause-used : goal.returns-clause-used
returns-clause-used c f b at = (kept_at (uses_of c.args.ropes.now) c.self.inside.resident.items c.keep_used.new.resident.items f b c.keep_used.ensures at).1

pub returns-clause-bytes : goal.returns-clause-bytes
returns-clause-bytes c bytes was f b at = bytes_forgot (uses_of c.args.ropes.now) bytes (record { keeper = c.self.inside.keeper; resident = c.self.inside.resident.items }) c.args.self.now c.keep_used.new.resident.items c.self.view_is c.keep_used.ensures was f b at
