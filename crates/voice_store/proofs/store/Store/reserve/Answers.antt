use Rattle.std.proofs.Common.{sym, subst}
use Rattle.voice_store.specs.Shown.{Stands}
use Rattle.voice_store.proofs.Landed.{stands_reserved}
use Rattle.voice_store.proofs.store.Store.reserve.Goals as goal

pub invariant_of-self : goal.invariant_of-self
invariant_of-self g c =
    let was = c.self.invariant in
    let origin = g.D.Disk.told c.self.inside.origin.value in
    let disk = g.D.Disk.told c.self.inside.disk in
    record { first = was.first; stands = stands_reserved was.first origin disk c.self.inside.inside c.reserve.new.self c.self.inside.wanted c.reserve.ensures.rest c.reserve.ensures.items was.stands }

pub returns-clause-state : goal.returns-clause-state
returns-clause-state g c = λ first stands.
    let was = subst (λ v. Stands first (g.D.Disk.told v.origin) (g.D.Disk.told v.disk) v.inside v.wanted) (sym c.self.view_is) stands in
    stands_reserved first (g.D.Disk.told c.self.inside.origin.value) (g.D.Disk.told c.self.inside.disk) c.self.inside.inside c.reserve.new.self c.self.inside.wanted c.reserve.ensures.rest c.reserve.ensures.items was
