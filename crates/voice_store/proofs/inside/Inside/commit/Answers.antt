use Rattle.std.proofs.Common.{◌≡◌, refl, sym, ◌∙◌, ap, subst}
use Rattle.std.specs.Prelude.{Err}
use Rattle.voice_journal.specs.declared.errors.Fault.{Fault}
use Rattle.voice_journal.specs.Places.{JournalValue}
use Rattle.voice_store.specs.declared.inside.Inside.{Inside}
use Rattle.voice_store.specs.Stood.{Stood}
use Rattle.voice_store.proofs.OnItsWay.{going_again}
use Rattle.voice_store.proofs.Planned.{shape_tried}
use Rattle.voice_store.proofs.Switched.{planned}
use Rattle.voice_store.proofs.Tried.{went_on, stood_done, stood_failed, stood_waits}
use Rattle.voice_store.proofs.inside.Inside.commit.Goals as goal

pub returns-in-Ok-clause-stood : goal.returns-in-Ok-clause-stood
returns-in-Ok-clause-stood g c =
    λ first t0 b c' effect tr is_plan.
    let s = c.args.self.now in
    let old = g.D.Disk.told c.args.disk.now in
    let new = g.D.Disk.told c.put.new.disk in
    let put = c.put.ensures in
    let journal = c.put.new.journal in
    let done = c.done.new.self in
    let form = c.form_after-form.result in
    let laws = g.met.D.Disk g.world.𝓛 g.world.𝓜 g.world.𝓡 ((λ s x. x), (λ x. x), (λ x. x), λ x. x) in
    let went = went_on s.journal.shape old new put.made.later put.made.size put.made.honest (λ h. record { since = laws.since c.args.disk.now; present = laws.present c.args.disk.now h })
    (λ h. record { since = laws.since c.put.new.disk; present = laws.present c.put.new.disk h }) put.bytes in
    subst (λ (x : Inside). Stood first t0 new (record x { parts = record x.parts { form = form } })) (sym c.done.ensures.rest)
    (stood_done tr went c.foundations.ensures (planned tr c.foundations.ensures c.args.plan is_plan c.requires.can) journal form done.parts done.lanes done.recordings done.history
    c.in-Ok.ensures.ok_state c.form_after-form.ensures c.done.ensures.items c.done.ensures.kept.0 c.done.ensures.kept.1 c.done.ensures.kept.2 c.done.ensures.recordings
    (record { forgot = c.done.ensures.lanes; bytes = c.done.ensures.bytes; made = refl })
    (c.done.ensures.tables tr.held tr.takings tr.more b c' tr.ready (shape_tried tr ∙ sym (ap (λ (j : JournalValue). j.shape) c.in-Ok.ensures.ok_state)))
    (λ h. (c.in-Ok.ensures.ok h, put.crash h)))

pub returns-in-Err-Before-clause-stood : goal.returns-in-Err-Before-clause-stood
returns-in-Err-Before-clause-stood g c =
    λ first t0 b c' effect tr is_plan.
    let s = c.args.self.now in
    let old = g.D.Disk.told c.args.disk.now in
    let new = g.D.Disk.told c.put.new.disk in
    let put = c.put.ensures in
    let failed = c.failed.new.self in
    let before : Err c.in-Err-Before.field-0 ≡ Err Fault.Before = ap Err c.in-Err-Before.field-0-is in
    let laws = g.met.D.Disk g.world.𝓛 g.world.𝓜 g.world.𝓡 ((λ s x. x), (λ x. x), (λ x. x), λ x. x) in
    let went = went_on s.journal.shape old new put.made.later put.made.size put.made.honest (λ h. record { since = laws.since c.args.disk.now; present = laws.present c.args.disk.now h })
    (λ h. record { since = laws.since c.put.new.disk; present = laws.present c.put.new.disk h }) put.bytes in
    subst (λ (x : Inside). Stood first t0 new x) (sym c.failed.ensures.rest)
    (stood_failed tr went c.foundations.ensures c.put.new.journal failed.parts failed.history
    (c.in-Err-Before.ensures.before_state before) c.failed.ensures.items c.failed.ensures.kept
    (c.failed.ensures.tables tr.held tr.takings tr.more b c' tr.ready) (λ h r stands. c.in-Err-Before.ensures.before h r stands before))

pub returns-clause-stood : goal.returns-clause-stood
returns-clause-stood g c =
    λ first t0 b c' effect tr is_plan.
    let s = c.args.self.now in
    let old = g.D.Disk.told c.args.disk.now in
    let new = g.D.Disk.told c.put.new.disk in
    let put = c.put.ensures in
    let wait = c.wait.new.self in
    let doubt : Err c.in-Err-Doubt.field-0 ≡ Err Fault.Doubt = ap Err c.in-Err-Doubt.field-0-is in
    let laws = g.met.D.Disk g.world.𝓛 g.world.𝓜 g.world.𝓡 ((λ s x. x), (λ x. x), (λ x. x), λ x. x) in
    let went = went_on s.journal.shape old new put.made.later put.made.size put.made.honest (λ h. record { since = laws.since c.args.disk.now; present = laws.present c.args.disk.now h })
    (λ h. record { since = laws.since c.put.new.disk; present = laws.present c.put.new.disk h }) put.bytes in
    subst (λ (x : Inside). Stood first t0 new x) (sym c.wait.ensures.rest)
    (stood_waits tr went c.foundations.ensures (planned tr c.foundations.ensures c.args.plan is_plan c.requires.can) c.put.new.journal c.form_after-form.result wait.parts wait.recordings wait.history
    (c.in-Err-Doubt.ensures.doubt_state doubt) c.form_after-form.ensures c.wait.ensures.items
    (c.wait.ensures.next tr.held tr.takings tr.more b c' tr.ready) c.wait.ensures.addresses c.wait.ensures.recordings
    (λ h. ((λ r stands. c.in-Err-Doubt.ensures.doubt h r stands doubt), put.crash h)))
