use Rattle.std.proofs.Common.{sym, subst}
use Rattle.playing.specs.Frames.{FramesState, HoldsBytes}
use Rattle.playing.proofs.lanes.Lanes.play_on.Goals as goal

pub returns-in-Err-Failed-clause-bytes : goal.returns-in-Err-Failed-clause-bytes
returns-in-Err-Failed-clause-bytes g c honest bytes there was = subst (λ (s : FramesState). HoldsBytes bytes s) (sym c.hear.ensures.frames) (c.send.ensures.bytes honest bytes there was)
