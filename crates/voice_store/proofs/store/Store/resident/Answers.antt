use Rattle.std.proofs.Common.{◌≡◌, ◌+◌, true, sym, ◌∙◌, subst}
use Rattle.std.specs.Prelude.{IsTrue}
use Rattle.voice_store.specs.Shown.{Stands, HasBlock, state_of}
use Rattle.voice_store.specs.Residing.{has_use}
use Rattle.voice_store.proofs.Residing.{held_block, held_in_use}
use Rattle.voice_store.proofs.store.Store.resident.Goals as goal

pub returns-clause-bytes : goal.returns-clause-bytes
returns-clause-bytes g c = λ honest first stands there.
    let was = subst (λ v. Stands first (g.D.Disk.told v.origin) (g.D.Disk.told v.disk) v.inside v.wanted) (sym c.self.view_is) stands in
    let origin = g.D.Disk.told c.self.inside.origin.value in
    let disk = g.D.Disk.told c.self.inside.disk in
    let told = subst (λ v. IsTrue (g.D.Disk.told v.disk).honest) (sym c.self.view_is) honest in
    subst (λ v. HasBlock (g.D.Disk.told v.disk).bytes v c.args.file c.args.index) c.self.view_is
    (held_block first (origin.calls + 1) disk c.self.inside.inside was.stood told c.args.file c.args.index (sym c.is_resident.ensures ∙ there))

pub returns-clause-used : goal.returns-clause-used
returns-clause-used g c = λ first stands there.
    let was = subst (λ v. Stands first (g.D.Disk.told v.origin) (g.D.Disk.told v.disk) v.inside v.wanted) (sym c.self.view_is) stands in
    let origin = g.D.Disk.told c.self.inside.origin.value in
    let disk = g.D.Disk.told c.self.inside.disk in
    subst (λ v. has_use (state_of first v) c.args.file c.args.index ≡ true) c.self.view_is
    (held_in_use first (origin.calls + 1) disk c.self.inside.inside was.stood c.args.file c.args.index (sym c.is_resident.ensures ∙ there))
