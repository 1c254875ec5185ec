use Rattle.std.proofs.Common.{sym, ◌∙◌}
use Rattle.mirror_sender.proofs.Following.{follows_quiet}
use Rattle.mirror_sender.proofs.sender.Sender.answer.Goals as goal

pub returns-then-is_quiet-clause-ok : goal.returns-then-is_quiet-clause-ok
returns-then-is_quiet-clause-ok c = λ s may. follows_quiet c.args.tapes.now c.args.self.now s c.args.call.now c.args.out.now.items (sym c.is_quiet.ensures ∙ c.if-is_quiet.true) may
