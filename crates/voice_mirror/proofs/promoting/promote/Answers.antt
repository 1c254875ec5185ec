use Rattle.std.proofs.Common.{inr, Bool, IsTrue, sym, subst}
use Rattle.crash_laws.specs.Standing.{IsHonest}
use Rattle.voice_mirror.specs.Shown.{MirrorState, state_of}
use Rattle.voice_mirror.specs.Promoting.{Refuses}
use Rattle.voice_mirror.proofs.Promoted.{stuck_promotes, promotes_any, stands_with}
use Rattle.voice_mirror.proofs.promoting.promote.Goals as goal

pub returns-in_default-clause-promotes : goal.returns-in_default-clause-promotes
returns-in_default-clause-promotes g c =
    λ honest first from t0 taken doubt keeps.
    let mid = g.D.Disk.told c.settle.new.disk in
    let laws = g.met.D.Disk g.world.𝓛 g.world.𝓜 g.world.𝓡 ((λ s x. x), (λ x. x), (λ x. x), λ x. x) in
    let honest_mid = subst (λ (x : Bool). IsTrue x) (sym c.settle.ensures.made.honest) honest in
    let is : IsHonest mid = record { since = laws.since c.settle.new.disk; present = laws.present c.settle.new.disk honest_mid } in
    stuck_promotes first from t0 taken doubt mid is (state_of c.settle.new.inside) (c.in_default.ensures.stuck honest first from t0 taken doubt keeps) _

pub returns-clause-judges : goal.returns-clause-judges
returns-clause-judges g c =
    let same = c.in-Ok.ensures.ok in
    inr (subst (λ (m : MirrorState). Refuses m c.turn.result) same (record { spent = c.turn.ensures.spent; full = c.turn.ensures.full }))

pub returns-clause-promotes : goal.returns-clause-promotes
returns-clause-promotes g c =
    λ honest first from t0 taken doubt keeps.
    let mid = g.D.Disk.told c.settle.new.disk in
    let laws = g.met.D.Disk g.world.𝓛 g.world.𝓜 g.world.𝓡 ((λ s x. x), (λ x. x), (λ x. x), λ x. x) in
    let honest_mid = subst (λ (x : Bool). IsTrue x) (sym c.settle.ensures.made.honest) honest in
    let is : IsHonest mid = record { since = laws.since c.settle.new.disk; present = laws.present c.settle.new.disk honest_mid } in
    let kept = c.in-Ok.ensures.kept honest first from t0 taken doubt keeps in
    let s = state_of c.settle.new.inside in
    promotes_any (λ d. g.D.Disk.told d) first from t0 mid.calls taken doubt c.settle.new.disk c.turn.new.disk is s kept c.turn.result c.turn.ensures.unchanged
    (c.turn.ensures.turns honest_mid kept.now _ (stands_with first from t0 mid.calls taken doubt mid mid is s kept) kept.shows)
