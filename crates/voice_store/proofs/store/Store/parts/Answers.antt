use Rattle.std.proofs.Common.{◌≡◌, ◌+◌, None, sym, subst}
use Rattle.voice_store.specs.Shown.{Stands, state_of}
use Rattle.voice_store.specs.Stood.{ShowsState}
use Rattle.voice_store.proofs.Spare.{shows_state}
use Rattle.voice_store.proofs.store.Store.parts.Goals as goal

pub returns-clause-shows : goal.returns-clause-shows
returns-clause-shows g c = λ first stands sure.
    let was = subst (λ v. Stands first (g.D.Disk.told v.origin) (g.D.Disk.told v.disk) v.inside v.wanted) (sym c.self.view_is) stands in
    let origin = g.D.Disk.told c.self.inside.origin.value in
    let disk = g.D.Disk.told c.self.inside.disk in
    let none = subst (λ v. (state_of first v).doubt ≡ None) (sym c.self.view_is) sure in
    subst (λ v. ShowsState c.self.inside.inside.parts (state_of first v)) c.self.view_is
    (shows_state first (origin.calls + 1) disk c.self.inside.inside was.stood none)
