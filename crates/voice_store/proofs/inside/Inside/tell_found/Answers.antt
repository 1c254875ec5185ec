use Rattle.voice_store.specs.Stood.{last_of, tapes_of}
use Rattle.voice_store.proofs.Refused.{found_stays}
use Rattle.voice_store.proofs.inside.Inside.tell_found.Goals as goal

pub returns-clause-stood : goal.returns-clause-stood
returns-clause-stood g c =
    λ first t0 stood has.
    let s = c.args.self.now in
    c.note.ensures.stood first t0 stood (found_stays (g.D.Disk.told c.args.disk.now).honest (last_of first s) (tapes_of s) c.args.caller c.args.class c.args.key c.args.found.0 c.args.found.1 has)
