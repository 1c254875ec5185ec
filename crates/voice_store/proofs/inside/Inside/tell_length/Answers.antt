use Rattle.std.proofs.Common.{[], refl}
use Rattle.voice_store.specs.Stood.{last_of, tapes_of}
use Rattle.voice_store.proofs.Refused.{stood_shows}
use Rattle.voice_store.proofs.inside.Inside.tell_length.Goals as goal

pub returns-in-Some-clause-stood : goal.returns-in-Some-clause-stood
returns-in-Some-clause-stood g c =
    λ first t0 stood.
    let s = c.args.self.now in
    let disk = g.D.Disk.told c.args.disk.now in
    c.tell.ensures.stood first t0 stood (c.in-Some.ensures stood.held (last_of first s) (tapes_of s) (stood_shows first t0 disk s stood))

pub returns-in-None-clause-stood : goal.returns-in-None-clause-stood
returns-in-None-clause-stood g c =
    λ first t0 stood.
    let s = c.args.self.now in
    let disk = g.D.Disk.told c.args.disk.now in
    c.refuse.ensures.stood first t0 stood refl (c.in-None.ensures stood.held (last_of first s) (tapes_of s) (stood_shows first t0 disk s stood))
