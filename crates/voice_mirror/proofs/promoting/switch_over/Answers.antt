use Rattle.std.proofs.Common.{Bool, IsTrue, Err, sym, ap, subst}
use Rattle.crash_laws.specs.Standing.{IsLater}
use Rattle.voice_mirror.proofs.Promoted.{done, failed, doubted}
use Rattle.voice_mirror.proofs.promoting.switch_over.Goals as goal

pub returns-in-Ok-clause-turns : goal.returns-in-Ok-clause-turns
returns-in-Ok-clause-turns g c =
    λ honest b had stands spelled.
    let old = g.D.Disk.told c.args.disk.now in
    let new = g.D.Disk.told c.switch.new.disk in
    let laws = g.met.D.Disk g.world.𝓛 g.world.𝓜 g.world.𝓡 ((λ s x. x), (λ x. x), (λ x. x), λ x. x) in
    let is : IsLater old new = record {
      later = c.switch.ensures.made.later;
      was = record { since = laws.since c.args.disk.now; present = laws.present c.args.disk.now honest };
      is = record { since = laws.since c.switch.new.disk; present = laws.present c.switch.new.disk (subst (λ (x : Bool). IsTrue x) (sym c.switch.ensures.made.honest) honest) };
    } in
    done c.foundations.ensures old new is c.args.journal.now c.switch.new.self c.args.base.now b had stands spelled (c.switch.ensures.crash honest) _ (c.in-Ok.ensures.ok honest)

pub returns-in-Err-Before-clause-turns : goal.returns-in-Err-Before-clause-turns
returns-in-Err-Before-clause-turns g c =
    λ honest b had stands spelled.
    let old = g.D.Disk.told c.args.disk.now in
    let new = g.D.Disk.told c.switch.new.disk in
    let laws = g.met.D.Disk g.world.𝓛 g.world.𝓜 g.world.𝓡 ((λ s x. x), (λ x. x), (λ x. x), λ x. x) in
    let is : IsLater old new = record {
      later = c.switch.ensures.made.later;
      was = record { since = laws.since c.args.disk.now; present = laws.present c.args.disk.now honest };
      is = record { since = laws.since c.switch.new.disk; present = laws.present c.switch.new.disk (subst (λ (x : Bool). IsTrue x) (sym c.switch.ensures.made.honest) honest) };
    } in
    failed c.foundations.ensures old new is c.args.journal.now c.switch.new.self c.args.base.now b had stands spelled (c.switch.ensures.crash honest) _ (λ r at. c.in-Err-Before.ensures.before honest r at (ap Err c.in-Err-Before.field-0-is))

pub returns-in-Err-Doubt-clause-turns : goal.returns-in-Err-Doubt-clause-turns
returns-in-Err-Doubt-clause-turns g c =
    λ honest b had stands spelled.
    let old = g.D.Disk.told c.args.disk.now in
    let new = g.D.Disk.told c.switch.new.disk in
    let laws = g.met.D.Disk g.world.𝓛 g.world.𝓜 g.world.𝓡 ((λ s x. x), (λ x. x), (λ x. x), λ x. x) in
    let is : IsLater old new = record {
      later = c.switch.ensures.made.later;
      was = record { since = laws.since c.args.disk.now; present = laws.present c.args.disk.now honest };
      is = record { since = laws.since c.switch.new.disk; present = laws.present c.switch.new.disk (subst (λ (x : Bool). IsTrue x) (sym c.switch.ensures.made.honest) honest) };
    } in
    doubted c.foundations.ensures old new is c.args.journal.now c.switch.new.self c.args.base.now b had stands spelled (c.switch.ensures.crash honest) _ (λ r at. c.in-Err-Doubt.ensures.doubt honest r at (ap Err c.in-Err-Doubt.field-0-is))
