use Rattle.std.proofs.Common.{refl}
use Rattle.playing.proofs.Kept.{retold, one_missing, holds_loaded, absent_in}
use Rattle.playing.proofs.frames.Frames.ready.Goals as goal

pub returns-in_err-load-clause-made : goal.returns-in_err-load-clause-made
returns-in_err-load-clause-made g c = retold 1 _ _ _ _ _ (one_missing c.args.self.now.resident c.args.b (absent_in _ _ c.deref.result.now c.args.b c.self.view_is c.deref.ensures.value c.in_default.ensures.none)) (λ e. refl) c.in_err-load.ensures.made

pub returns-clause-made : goal.returns-clause-made
returns-clause-made g c = retold 1 _ _ _ _ _ (one_missing c.args.self.now.resident c.args.b (absent_in _ _ c.deref.result.now c.args.b c.self.view_is c.deref.ensures.value c.in_default.ensures.none)) (λ e. e) c.in_ok-load.ensures.made

pub returns-clause-bytes : goal.returns-clause-bytes
returns-clause-bytes g c honest held at bytes there was =
    holds_loaded bytes c.args.shape.now (g.D.Disk.told c.args.disk.now).bytes held c.args.self.now c.load.new.self c.spare-frame.result c.args.address c.args.b there was
    at c.spare-frame.ensures.low c.in_ok-load.ensures.resident (c.in_ok-load.ensures.filled honest) c.in_ok-load.ensures.others
