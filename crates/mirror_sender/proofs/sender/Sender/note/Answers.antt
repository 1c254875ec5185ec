use Rattle.std.proofs.Common.{◌≡◌, refl, sym, ◌∙◌, ap, subst}
use Rattle.voice_model.specs.Step.{state_after}
use Rattle.mirror_sender.specs.Sent.{sent, answered_effect}
use Rattle.mirror_sender.specs.Abreast.{IsAbreast, Follows}
use Rattle.mirror_sender.proofs.Lists.{ok_then}
use Rattle.mirror_sender.proofs.Following.{follows_none, abreast_unsent, unsent, may_hold, held_after, held_sent, may_answer, answered_after, answered_sent}
use Rattle.mirror_sender.proofs.sender.Sender.note.Goals as goal

pub returns-in-Without-clause-ok : goal.returns-in-Without-clause-ok
returns-in-Without-clause-ok c = λ s may.
    let self = c.args.self.now in
    let tapes = c.args.tapes.now in
    let e = c.args.entry.now in
    let course = sym c.course_by.ensures ∙ c.in-Without.is in
    follows_none tapes self self (state_after s tapes e) c.args.out.now.items c.args.out.now.items (sent s tapes e) (abreast_unsent tapes self s e course may) (unsent s tapes e course may.answer).none refl refl

pub returns-in-Doubted-clause-ok : goal.returns-in-Doubted-clause-ok
returns-in-Doubted-clause-ok c = λ s may.
    let self = c.args.self.now in
    let tapes = c.args.tapes.now in
    let e = c.args.entry.now in
    let new = c.hold.new.self in
    let course = sym c.course_by.ensures ∙ c.in-Doubted.is in
    ok_then c.hold.result _ _
    (λ abreast. follows_none tapes self new (state_after s tapes e) c.args.out.now.items c.args.out.now.items (sent s tapes e) (subst (IsAbreast tapes new) (sym (held_after s tapes e course)) abreast) (held_sent s tapes e course) refl c.hold.ensures.next)
    (c.hold.ensures.ok s (may_hold tapes self s e may course))

pub returns-in-Answered-clause-ok : goal.returns-in-Answered-clause-ok
returns-in-Answered-clause-ok c = λ s may.
    let self = c.args.self.now in
    let tapes = c.args.tapes.now in
    let e = c.args.entry.now in
    let new = c.answer.new.self in
    let course = sym c.course_by.ensures ∙ c.in-Answered.is in
    ok_then c.answer.result _ _
    (λ follows. subst (λ o. Follows tapes self new (state_after s tapes e) c.args.out.now.items c.answer.new.out.items o) (sym (answered_sent s tapes e course))
    (subst (λ t. Follows tapes self new t c.args.out.now.items c.answer.new.out.items (answered_effect s tapes e.call)) (sym (answered_after s tapes e course)) follows))
    (c.answer.ensures.ok s (may_answer tapes self s e may course))
