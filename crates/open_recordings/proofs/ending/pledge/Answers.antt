use Rattle.std.proofs.Common.{refl}
use Rattle.open_recordings.proofs.Pledged.{fresh, pledged}
use Rattle.open_recordings.proofs.ending.pledge.Goals as goal

pub rename-requires : goal.rename-requires
rename-requires c = fresh c.requires.0 c.requires.1 c.args.lane c.args.parts.now c.requires.2 c.args.next.now c.requires.3 c.requires.4

pub returns-clause-ready : goal.returns-clause-ready
returns-clause-ready c = λ held takings more b change h ends.
    let old = c.args.parts.now in
    pledged held takings c.args.lane old b c.args.next.now change h more (record old { blocks = c.rename.new.self }) h.runs.kept refl refl c.rename.ensures.holders ends
