use Rattle.std.proofs.Common.{refl}
use Rattle.mirror_sender.proofs.Lists.{on_err}
use Rattle.mirror_sender.proofs.Noted.{sound_added, add_follows, sound_same, abreast_same}
use Rattle.mirror_sender.proofs.sender.Sender.add.Goals as goal

pub returns-in_err-push-clause-sound : goal.returns-in_err-push-clause-sound
returns-in_err-push-clause-sound c = (c.requires.sound.0, sound_same c.requires.sound.0 c.args.tapes.now c.args.self.now c.push.new.self c.in_err-push.ensures.items c.requires.sound.1)

pub returns-in_err-push-clause-err : goal.returns-in_err-push-clause-err
returns-in_err-push-clause-err c = λ s abreast. on_err c.from_residual.result _ (abreast.0, abreast_same abreast.0 c.args.tapes.now c.args.self.now s c.push.new.self c.in_err-push.ensures.items abreast.1)

pub returns-clause-sound : goal.returns-clause-sound
returns-clause-sound c = sound_added c.args.tapes.now c.args.self.now (record c.args.self.now { adds = c.push.new.self }) (record { lane = c.args.lane; take = c.args.take }) c.requires.sound c.requires.take refl c.in_ok-push.ensures.items

pub returns-clause-ok : goal.returns-clause-ok
returns-clause-ok c = λ s may.
    add_follows may.abreast.0 c.args.tapes.now c.args.self.now (record c.args.self.now { adds = c.push.new.self }) s c.args.lane c.args.take c.args.out.now.items may.abreast.1 may.may c.requires.take may.later c.in_ok-push.ensures.items refl
