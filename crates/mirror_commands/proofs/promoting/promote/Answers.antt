use Rattle.std.proofs.Common.{◌∙◌, Bool, IsTrue, Result, Err, sym, subst}
use Rattle.crash_laws.specs.Standing.{IsHonest}
use Rattle.voice_mirror.specs.declared.promoting.PromoteError.{PromoteError}
use Rattle.mirror_commands.specs.declared.promoting.Refusal.{Refusal}
use Rattle.mirror_commands.specs.Promoting.{Promotes}
use Rattle.mirror_commands.proofs.Turned.{mapped, promoted}
use Rattle.mirror_commands.proofs.promoting.promote.Goals as goal

pub returns-in-Ok-default-clause-promotes : goal.returns-in-Ok-default-clause-promotes
returns-in-Ok-default-clause-promotes g c =
    let old = g.D.Disk.told c.args.disk in
    let new = g.D.Disk.told c.promote.result.1 in
    let laws = g.met.D.Disk g.world.𝓛 g.world.𝓜 g.world.𝓡 ((λ s x. x), (λ x. x), (λ x. x), λ x. x) in
    let looks = c.in-Ok.ensures.ok.1 in
    let honest_then : IsTrue old.honest → IsHonest new = λ honest. record { since = laws.since c.promote.result.1; present = laws.present c.promote.result.1 (subst (λ (x : Bool). IsTrue x) (sym (c.promote.ensures.goes.honest ∙ looks.honest)) honest) } in
    subst (λ (r : Result (Unit {0}) PromoteError). Promotes old new (mapped r)) c.in-Ok-default.is-0
    (promoted (λ d. g.D.Disk.told d) old c.in-Ok.mirror.disk c.promote.result.1 looks c.in-Ok.mirror.state c.promote.result.0 c.in-Ok.ensures.read c.in-Ok.ensures.reads honest_then c.promote.ensures.judges c.promote.ensures.need
    c.promote.ensures.unchanged c.promote.ensures.fault c.promote.ensures.promotes)

pub returns-in-Err-default-clause-promotes : goal.returns-in-Err-default-clause-promotes
returns-in-Err-default-clause-promotes g c =
    let old = g.D.Disk.told c.args.disk in
    let new = g.D.Disk.told c.promote.result.1 in
    let laws = g.met.D.Disk g.world.𝓛 g.world.𝓜 g.world.𝓡 ((λ s x. x), (λ x. x), (λ x. x), λ x. x) in
    let looks = c.in-Ok.ensures.ok.1 in
    let honest_then : IsTrue old.honest → IsHonest new = λ honest. record { since = laws.since c.promote.result.1; present = laws.present c.promote.result.1 (subst (λ (x : Bool). IsTrue x) (sym (c.promote.ensures.goes.honest ∙ looks.honest)) honest) } in
    subst (λ (e : Refusal). Promotes {T = Unit {0}} old new (Err e)) (sym c.refused.ensures)
    (subst (λ (r : Result (Unit {0}) PromoteError). Promotes old new (mapped r)) c.in-Err-default.is-0
    (promoted (λ d. g.D.Disk.told d) old c.in-Ok.mirror.disk c.promote.result.1 looks c.in-Ok.mirror.state c.promote.result.0 c.in-Ok.ensures.read c.in-Ok.ensures.reads honest_then c.promote.ensures.judges c.promote.ensures.need
    c.promote.ensures.unchanged c.promote.ensures.fault c.promote.ensures.promotes))
