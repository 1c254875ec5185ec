use Rattle.std.proofs.Common.{◌≡◌, ◌+◌, sym, ◌∙◌, subst}
use Rattle.voice_model.specs.Room.{free}
use Rattle.voice_store.specs.Shown.{Stands, state_of}
use Rattle.voice_store.proofs.Spare.{free_is_open}
use Rattle.voice_store.proofs.store.Store.free.Goals as goal

pub returns : goal.returns
returns g c = λ first stands.
    let was = subst (λ v. Stands first (g.D.Disk.told v.origin) (g.D.Disk.told v.disk) v.inside v.wanted) (sym c.self.view_is) stands in
    let origin = g.D.Disk.told c.self.inside.origin.value in
    let disk = g.D.Disk.told c.self.inside.disk in
    subst (λ v. c.free.result ≡ free (state_of first v)) c.self.view_is
    (c.free.ensures ∙ sym (free_is_open first (origin.calls + 1) disk c.self.inside.inside was.stood))
