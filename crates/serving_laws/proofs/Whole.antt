-- A feed's answer has nothing in it that was read off the disk.
use Rattle.std.proofs.Common.{◌≡◌, ℕ, Bool, true, false, cond, ◌==◌, List, length, Option, Some, None, refl, sym, ◌∙◌, subst}
use Rattle.std.proofs.lemmas.Bool.{false≢true}
use Rattle.voice_units.specs.Spots.{window}
use Rattle.voice_model.specs.Samples.{spots_in_rope}
use Rattle.voice_model.specs.State.{State, Job, lane_at}
use Rattle.voice_model.specs.Step.{Outcome, outcome_of, refusal, first_job, brought_back, played_on, reply_of_feed, reply_by, MayReply, IsReply, IsAnswer}
use Rattle.voice_model.specs.Heard.{unheard, IsReplyOn, IsAnswerOn}
use Rattle.voice_model.specs.declared.calls.Call.{Call}
use Rattle.voice_model.specs.declared.calls.Call.TheVariants as calls
use Rattle.voice_model.specs.declared.calls.Reply.{Reply}
use Rattle.voice_model.specs.declared.calls.Reply.TheVariants as replies
use Rattle.voice_model.specs.declared.calls.Why.{Why}
use Rattle.voice_model.specs.declared.calls.Entry.{Entry}
use Rattle.serving_laws.specs.Lanes.{Feeds}
use Rattle.serving_laws.proofs.Served.{faulted}

-- no talk and no peaks
abbrev IsPlain : Reply → Type 0
IsPlain (replies.Talk spans) = ⊥
IsPlain (replies.Peaks most) = ⊥
IsPlain _ = Unit {0}

plain_unheard : (reply : Reply) → IsPlain reply → unheard reply ≡ reply
plain_unheard (replies.Talk spans) h = absurd h
plain_unheard (replies.Peaks most) h = absurd h
plain_unheard _ h = refl

same : (right reply : Reply) → IsPlain right → right ≡ unheard reply → right ≡ reply
same right (replies.Talk spans) h e = absurd (subst IsPlain e h)
same right (replies.Peaks most) h e = absurd (subst IsPlain e h)
same right _ h e = e

plain_cond : (b : Bool) (x y : Reply) → IsPlain x → IsPlain y → IsPlain (cond b x y)
plain_cond true x y h k = h
plain_cond false x y h k = k

plain_played : (job : Job) (block : ℕ) → IsPlain (played_on job block)
plain_played job block =
    plain_cond job.stopped (replies.Stopped job.number job.heard) (cond (job.heard == length job.passage) (replies.Ended job.number job.heard) (replies.Window job.heard (window block (spots_in_rope job.passage) job.heard))) tt
    (plain_cond (job.heard == length job.passage) (replies.Ended job.number job.heard) (replies.Window job.heard (window block (spots_in_rope job.passage) job.heard)) tt tt)

plain_feed : (block : ℕ) (o : Option Job) → IsPlain (reply_of_feed block o)
plain_feed block None = tt
plain_feed block (Some job) = plain_played job block

plain_reply : (r : Option Why) (s : State) (tapes : List (List ℕ)) (lane : ℕ) (back : Option ℕ) → IsPlain (reply_by s tapes (calls.Feed lane back) r)
plain_reply None s tapes lane back = plain_feed s.shape.block (first_job (lane_at (brought_back s lane back) lane).jobs)
plain_reply (Some reason) s tapes lane back = tt

plain_outcome : (o : Outcome) (s : State) (tapes : List (List ℕ)) (lane : ℕ) (back : Option ℕ) (reply : Reply) → outcome_of reply ≡ o → MayReply o s tapes (calls.Feed lane back) reply → IsPlain reply
plain_outcome Outcome.Answered s tapes lane back reply o k = subst IsPlain (sym k.1) (plain_reply (refusal s tapes (calls.Feed lane back)) s tapes lane back)
plain_outcome Outcome.Faulted s tapes lane back reply o k = subst IsPlain (sym (faulted reply o)) tt
plain_outcome Outcome.Doubted s tapes lane back reply o k = absurd (false≢true k.0)

by_call : (call : Call) (s : State) (tapes : List (List ℕ)) (caller lane : ℕ) (reply : Reply) → Feeds lane call → IsReplyOn false s tapes caller call reply → IsReply s tapes caller call reply
by_call (calls.Feed other back) s tapes caller lane reply feeds h =
    let plain = plain_outcome (outcome_of h.right) s tapes other back h.right refl h.answer.1 in
    subst (IsReply s tapes caller (calls.Feed other back)) (same h.right reply plain (sym (plain_unheard h.right plain) ∙ h.alike)) h.answer
by_call _ s tapes caller lane reply feeds h = absurd feeds

pub told_whole : (honest : Bool) (s : State) (tapes : List (List ℕ)) (e : Entry) (lane : ℕ) → Feeds lane e.call → IsAnswerOn honest s tapes e → IsAnswer s tapes e
told_whole true s tapes e lane feeds h = h
told_whole false s tapes e lane feeds h = by_call e.call s tapes e.caller lane e.reply feeds h
