use Rattle.std.proofs.Common.{[], subst}
use Rattle.ready_changes.specs.Ready.{MayBeReady}
use Rattle.change_uses.proofs.Readied.{some_ready}
use Rattle.change_uses.proofs.rows.done.Goals as goal

pub perform-requires : goal.perform-requires
perform-requires c =
    let r = c.requires.0 in
    let spare = c.args.parts.now.interests.spare in
    let some = some_ready spare r.kept c.in-Some.ready c.requires.1 (subst (λ o. MayBeReady spare r.kept o c.requires.1) c.in-Some.is c.requires.3) in
    ([], r.kept, some.0, c.requires.2.kept, some.1)
