use Rattle.std.proofs.Common.{◌∙◌, Bool, IsTrue, sym, subst}
use Rattle.crash_laws.specs.Standing.{IsHonest}
use Rattle.mirror_packets.specs.Shown.{packets_of}
use Rattle.mirror_commands.specs.Feeding.{Stays, Tells}
use Rattle.mirror_commands.proofs.Fed.{stays, served_by}
use Rattle.mirror_commands.proofs.feeding.feed.Goals as goal

pub returns-in-Ok-told-clause-tells : goal.returns-in-Ok-told-clause-tells
returns-in-Ok-told-clause-tells g c =
    let old = g.D.Disk.told c.args.disk in
    let mid = g.D.Disk.told c.in-Ok.mirror.disk in
    let new = g.D.Disk.told c.told-told.new.mirror.disk in
    let laws = g.met.D.Disk g.world.𝓛 g.world.𝓜 g.world.𝓡 ((λ s x. x), (λ x. x), (λ x. x), λ x. x) in
    let looks = c.in-Ok.ensures.ok.1 in
    let honest_then : IsTrue old.honest → IsHonest new = λ honest. record { since = laws.since c.told-told.new.mirror.disk; present = laws.present c.told-told.new.mirror.disk (subst (λ (x : Bool). IsTrue x) (sym (c.told-told.ensures.goes.honest ∙ looks.honest)) honest) } in
    let x = c.in-Ok-told.ensures.told in
    subst (λ d. Tells (packets_of c.args.packets.now) c.in-Ok-told.text.items old (g.D.Disk.told d)) (sym c.close-disk.ensures)
    (record {
      answers = x.answers;
      position = c.told-told.new.mirror.state.position;
      served = served_by c.fronts_grow.ensures old mid new looks c.in-Ok.mirror.state c.told-told.new.mirror.state (packets_of c.args.packets.now) c.in-Ok.ensures.reads honest_then c.told-told.ensures.fronts c.in-Ok.ensures.read x.answers x.serves x.held x.faults;
      text_is = x.text_is;
    })

pub returns-in-Ok-told-clause-stays : goal.returns-in-Ok-told-clause-stays
returns-in-Ok-told-clause-stays g c =
    let old = g.D.Disk.told c.args.disk in
    let mid = g.D.Disk.told c.in-Ok.mirror.disk in
    let new = g.D.Disk.told c.told-told.new.mirror.disk in
    let laws = g.met.D.Disk g.world.𝓛 g.world.𝓜 g.world.𝓡 ((λ s x. x), (λ x. x), (λ x. x), λ x. x) in
    let looks = c.in-Ok.ensures.ok.1 in
    let honest_then : IsTrue old.honest → IsHonest new = λ honest. record { since = laws.since c.told-told.new.mirror.disk; present = laws.present c.told-told.new.mirror.disk (subst (λ (x : Bool). IsTrue x) (sym (c.told-told.ensures.goes.honest ∙ looks.honest)) honest) } in
    subst (λ d. Stays (packets_of c.args.packets.now) old (g.D.Disk.told d)) (sym c.close-disk.ensures)
    (stays c.fronts_grow.ensures old mid new looks c.in-Ok.mirror.state c.told-told.new.mirror.state (packets_of c.args.packets.now) c.in-Ok.ensures.reads honest_then c.told-told.ensures.fronts)

pub returns-in-Err-told-clause-stays : goal.returns-in-Err-told-clause-stays
returns-in-Err-told-clause-stays g c =
    let old = g.D.Disk.told c.args.disk in
    let mid = g.D.Disk.told c.in-Ok.mirror.disk in
    let new = g.D.Disk.told c.told-told.new.mirror.disk in
    let laws = g.met.D.Disk g.world.𝓛 g.world.𝓜 g.world.𝓡 ((λ s x. x), (λ x. x), (λ x. x), λ x. x) in
    let looks = c.in-Ok.ensures.ok.1 in
    let honest_then : IsTrue old.honest → IsHonest new = λ honest. record { since = laws.since c.told-told.new.mirror.disk; present = laws.present c.told-told.new.mirror.disk (subst (λ (x : Bool). IsTrue x) (sym (c.told-told.ensures.goes.honest ∙ looks.honest)) honest) } in
    subst (λ d. Stays (packets_of c.args.packets.now) old (g.D.Disk.told d)) (sym c.close-disk.ensures)
    (stays c.fronts_grow.ensures old mid new looks c.in-Ok.mirror.state c.told-told.new.mirror.state (packets_of c.args.packets.now) c.in-Ok.ensures.reads honest_then c.told-told.ensures.fronts)
