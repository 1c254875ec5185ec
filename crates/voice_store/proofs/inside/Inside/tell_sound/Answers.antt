use Rattle.std.proofs.Common.{◌≡◌, Bool, Some, Err, IsTrue, sym, ap, subst, ◌∙◌}
use Rattle.voice_model.specs.Step.{refusal, nothing_to_land}
use Rattle.voice_model.specs.declared.calls.Call.{Call}
use Rattle.voice_model.specs.declared.calls.Reply.{Reply}
use Rattle.voice_model.specs.declared.calls.Reply.TheVariants as replies
use Rattle.voice_model.specs.declared.calls.Why.TheVariants as why
use Rattle.voice_store.specs.Stood.{is_fault_of, last_of, tapes_of}
use Rattle.voice_store.specs.Facts.{IsFault, Stays, stretches_of}
use Rattle.voice_store.specs.Hearing.{IsHeardOf, call_for}
use Rattle.voice_store.proofs.Refused.{wrong}
use Rattle.voice_store.proofs.Heard.{asks_nothing, plain_sound, heard_stays, fault_stays, stood_looked}
use Rattle.voice_store.proofs.inside.Inside.tell_sound.Goals as goal

pub returns-in_err-replies-in-Ok-Some-clause-stood : goal.returns-in_err-replies-in-Ok-Some-clause-stood
returns-in_err-replies-in-Ok-Some-clause-stood g c = λ first t0 stood.
    stood_looked first t0 (stretches_of (last_of first c.args.self.now) c.args.rope) (g.D.Disk.told c.args.disk.now) (g.D.Disk.told c.hear.new.disk) c.args.self.now (c.hear.ensures.looked first t0 stood) c.hear.ensures.moments stood

pub returns-in_ok-replies-in-Ok-Some-clause-cause : goal.returns-in_ok-replies-in-Ok-Some-clause-cause
returns-in_ok-replies-in-Ok-Some-clause-cause g c = λ fault.
    let s = c.args.self.now in
    let stood = c.requires.stood in
    let old = g.D.Disk.told c.args.disk.now in
    let plain = plain_sound old.honest (last_of stood.0 s) (tapes_of s) (call_for c.args.sound c.args.rope) c.in-Ok-Some.reply
    (subst (IsHeardOf old.honest (last_of stood.0 s) (tapes_of s) c.args.sound c.args.rope) c.in-Ok-Some.field-0-is (c.in-Ok-Some.ensures.answer stood.0 stood.1 stood.2)) in
    absurd (wrong (sym (ap is_fault_of plain) ∙ subst IsFault (c.answer.ensures.reply ∙ c.in_ok-replies-in-Ok-Some.ensures.second) fault))

pub returns-in_ok-replies-in-Ok-Some-clause-stood : goal.returns-in_ok-replies-in-Ok-Some-clause-stood
returns-in_ok-replies-in-Ok-Some-clause-stood g c = λ first t0 stood.
    let s = c.args.self.now in
    let old = g.D.Disk.told c.args.disk.now in
    let new = g.D.Disk.told c.hear.new.disk in
    let last = last_of first s in
    let looked = c.hear.ensures.looked first t0 stood in
    let stays = heard_stays old.honest last (tapes_of s) c.args.caller c.args.sound c.args.rope c.in-Ok-Some.reply
    (subst (IsHeardOf old.honest last (tapes_of s) c.args.sound c.args.rope) c.in-Ok-Some.field-0-is (c.in-Ok-Some.ensures.answer first t0 stood)) in
    c.answer.ensures.stood first t0 (stood_looked first t0 (stretches_of last c.args.rope) old new s looked c.hear.ensures.moments stood)
    (subst (λ (h : Bool). Stays h last (tapes_of s) c.args.caller c.call_for-call.result c.in_ok-replies-in-Ok-Some.replies.0) (sym looked.honest)
    (subst (λ (call : Call). Stays old.honest last (tapes_of s) c.args.caller call c.in_ok-replies-in-Ok-Some.replies.0) (sym c.call_for-call.ensures)
    (subst (λ (reply : Reply). Stays old.honest last (tapes_of s) c.args.caller (call_for c.args.sound c.args.rope) reply) (sym c.in_ok-replies-in-Ok-Some.ensures.first) stays)))

pub returns-in-Ok-None-clause-stood : goal.returns-in-Ok-None-clause-stood
returns-in-Ok-None-clause-stood g c = λ first t0 stood.
    let s = c.args.self.now in
    let last = last_of first s in
    c.refuse.ensures.stood first t0
    (stood_looked first t0 (stretches_of last c.args.rope) (g.D.Disk.told c.args.disk.now) (g.D.Disk.told c.hear.new.disk) s (c.hear.ensures.looked first t0 stood) c.hear.ensures.moments stood)
    (subst (λ (call : Call). IsTrue (nothing_to_land last call)) (sym c.call_for-call.ensures) (asks_nothing last c.args.sound c.args.rope))
    (subst (λ (call : Call). refusal last (tapes_of s) call ≡ Some (why.UnknownRope c.args.rope)) (sym c.call_for-call.ensures)
    (subst (IsHeardOf (g.D.Disk.told c.args.disk.now).honest last (tapes_of s) c.args.sound c.args.rope) c.in-Ok-None.field-0-is (c.in-Ok-None.ensures.answer first t0 stood)))

pub returns-in-Err-DiskFault-clause-stood : goal.returns-in-Err-DiskFault-clause-stood
returns-in-Err-DiskFault-clause-stood g c = λ first t0 stood.
    let s = c.args.self.now in
    let new = g.D.Disk.told c.hear.new.disk in
    let last = last_of first s in
    c.note_fault.ensures.stood first t0
    (stood_looked first t0 (stretches_of last c.args.rope) (g.D.Disk.told c.args.disk.now) new s (c.hear.ensures.looked first t0 stood) c.hear.ensures.moments stood)
    (subst (λ (call : Call). Stays new.honest last (tapes_of s) c.args.caller call (replies.No why.DiskFault)) (sym c.call_for-call.ensures)
    (fault_stays new.honest last (tapes_of s) c.args.caller c.args.sound c.args.rope (c.in-Err-DiskFault.ensures.at_device first t0 stood (ap Err c.in-Err-DiskFault.field-0-is))))

pub returns-in-Err-NoMemory-clause-stood : goal.returns-in-Err-NoMemory-clause-stood
returns-in-Err-NoMemory-clause-stood g c = λ first t0 stood.
    stood_looked first t0 (stretches_of (last_of first c.args.self.now) c.args.rope) (g.D.Disk.told c.args.disk.now) (g.D.Disk.told c.hear.new.disk) c.args.self.now (c.hear.ensures.looked first t0 stood) c.hear.ensures.moments stood
