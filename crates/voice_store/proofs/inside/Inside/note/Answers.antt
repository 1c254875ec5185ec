use Rattle.std.proofs.Common.{IsTrue}
use Rattle.crash_laws.specs.Standing.{IsHonest}
use Rattle.crash_laws.proofs.Noted.{entries_count}
use Rattle.voice_store.specs.Facts.{entry_of}
use Rattle.voice_store.proofs.Entries.{stood_noted}
use Rattle.voice_store.proofs.inside.Inside.note.Goals as goal

pub returns-clause-stood : goal.returns-clause-stood
returns-clause-stood g c =
    λ first t0 stood stays.
    let s = c.args.self.now in
    let d = c.args.disk.now in
    let disk = g.D.Disk.told d in
    let laws = g.met.D.Disk g.world.𝓛 g.world.𝓜 g.world.𝓡 ((λ s x. x), (λ x. x), (λ x. x), λ x. x) in
    let honest : IsTrue disk.honest → IsHonest disk = λ h. record { since = laws.since d; present = laws.present d h } in
    let e = entry_of c.args.caller c.args.call c.args.reply c.calls.result in
    stood_noted first t0 disk s c.enter.new.history e c.enter.ensures.items c.calls.ensures stays.answers (stays.stays c.calls.result) honest (entries_count disk) stood
