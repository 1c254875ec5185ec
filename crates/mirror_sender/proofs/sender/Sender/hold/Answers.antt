use Rattle.std.proofs.Common.{sym, ◌∙◌}
use Rattle.mirror_sender.proofs.Noted.{not_sure}
use Rattle.mirror_sender.proofs.sender.Sender.hold.Goals as goal

pub returns-then-is_some-clause-ok : goal.returns-then-is_some-clause-ok
returns-then-is_some-clause-ok c = λ s may.
    let self = c.args.self.now in
    absurd (not_sure may.abreast.0 c.args.tapes.now self.parts.interests.spare self.doubt s.doubt may.abreast.1.doubt may.sure (sym c.is_some.ensures ∙ c.if-is_some.true))
