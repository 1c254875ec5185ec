use Rattle.std.proofs.Common.{sym, subst, ap, ◌+◌}
use Rattle.voice_store.specs.Shown.{Stands}
use Rattle.voice_store.proofs.Returned.{stands_back}
use Rattle.voice_store.proofs.store.Store.take_back.Goals as goal

pub take_back-requires-clause-stood : goal.take_back-requires-clause-stood
take_back-requires-clause-stood g c κs within =
    let was = c.self.invariant in
    let origin = g.D.Disk.told c.self.inside.origin.value in
    (was.first, origin.calls + 1, was.stands.stood)

pub invariant_of-self : goal.invariant_of-self
invariant_of-self g c =
    let was = c.self.invariant in
    let a = c.take_back.ensures in
    let disk = g.D.Disk.told c.self.inside.disk in
    record { first = was.first; stands = stands_back was.first (g.D.Disk.told c.self.inside.origin.value) disk c.self.inside.inside c.take_back.new.self c.self.inside.wanted (ap (λ h. h.items) a.history) a.tapes (a.stood was.first) was.stands }

pub returns-clause-state : goal.returns-clause-state
returns-clause-state g c = λ first stands.
    let was = subst (λ v. Stands first (g.D.Disk.told v.origin) (g.D.Disk.told v.disk) v.inside v.wanted) (sym c.self.view_is) stands in
    let a = c.take_back.ensures in
    let disk = g.D.Disk.told c.self.inside.disk in
    stands_back first (g.D.Disk.told c.self.inside.origin.value) disk c.self.inside.inside c.take_back.new.self c.self.inside.wanted (ap (λ h. h.items) a.history) a.tapes (a.stood first) was
