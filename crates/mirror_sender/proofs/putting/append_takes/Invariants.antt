use Rattle.std.specs.Vec.{vec_capacity}
use Rattle.voice_model.specs.Tapes.{taken}
use Rattle.change_codec.proofs.Appended.{AreAppended}
use Rattle.mirror_sender.proofs.putting.append_takes.Given as goal

abbrev pub invariant-loop-take : goal.invariant-loop-take
invariant-loop-take l = AreAppended (taken l.tapes) l.fn.out.items l.out.items (vec_capacity l.out) l.take-index l.takes
