use Rattle.std.proofs.Common.{sym, ap, subst}
use Rattle.playing.specs.Frames.{HoldsBytes}
use Rattle.playing.specs.Lanes.{LanesState}
use Rattle.playing.proofs.lanes.Lanes.forget_unused.Goals as goal

pub returns-clause-bytes : goal.returns-clause-bytes
returns-clause-bytes c bytes was = c.forget_unused.ensures.bytes bytes (subst (HoldsBytes bytes) (sym (ap (λ (s : LanesState). s.frames) c.self.view_is)) was)
