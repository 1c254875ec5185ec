use Rattle.voice_store.specs.Stood.{last_of, tapes_of}
use Rattle.voice_store.proofs.Refused.{refused_stays}
use Rattle.voice_store.proofs.inside.Inside.refuse.Goals as goal

pub returns-clause-stood : goal.returns-clause-stood
returns-clause-stood g c =
    λ first t0 stood free is.
    let s = c.args.self.now in
    c.note.ensures.stood first t0 stood (refused_stays (g.D.Disk.told c.args.disk.now).honest (last_of first s) (tapes_of s) c.args.caller c.args.call c.args.why c.requires.built free is)
