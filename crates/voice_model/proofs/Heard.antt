-- Histories on disks of either honesty.
use Rattle.std.proofs.Common.{◌≡◌, ℕ, Bool, true, false, List, [], ◌∷◌, ◌++◌, refl}
use Rattle.voice_model.specs.State.{State}
use Rattle.voice_model.specs.Step.{IsReply, IsAnswer, after, state_after, outcome_of}
use Rattle.voice_model.specs.Heard.{unheard, IsReplyOn, IsAnswerOn, LegalButHeard, LegalOn}
use Rattle.voice_model.specs.declared.calls.Call.{Call}
use Rattle.voice_model.specs.declared.calls.Reply.{Reply}
use Rattle.voice_model.specs.declared.calls.Reply.TheVariants as replies
use Rattle.voice_model.specs.declared.calls.Entry.{Entry}
use Rattle.voice_model.proofs.Determined.{legal-append}

-- what may be given on an honest disk may be given on every disk
pub reply_on : (honest : Bool) (s : State) (tapes : List (List ℕ)) (caller : ℕ) (call : Call) (reply : Reply) → IsReply s tapes caller call reply → IsReplyOn honest s tapes caller call reply
reply_on true s tapes caller call reply h = h
reply_on false s tapes caller call reply h = record { right = reply; answer = h; alike = refl }

pub answer_on : (honest : Bool) (s : State) (tapes : List (List ℕ)) (e : Entry) → IsAnswer s tapes e → IsAnswerOn honest s tapes e
answer_on honest s tapes e h = reply_on honest s tapes e.caller e.call e.reply h

-- no reply that tells of a fault or of doubt is heard
pub same_outcome : (reply : Reply) → outcome_of (unheard reply) ≡ outcome_of reply
same_outcome (replies.Talk spans) = refl
same_outcome (replies.Peaks most) = refl
same_outcome reply = refl

but_append : (s : State) (tapes : List (List ℕ)) (es fs : List Entry) → LegalButHeard s tapes es → LegalButHeard (after s tapes es) tapes fs → LegalButHeard s tapes (es ++ fs)
but_append s tapes [] fs h k = k
but_append s tapes (e ∷ es) fs h k = (h.0, but_append (state_after s tapes e) tapes es fs h.1 k)

pub legal_on-append : (honest : Bool) (s : State) (tapes : List (List ℕ)) (es fs : List Entry) → LegalOn honest s tapes es → LegalOn honest (after s tapes es) tapes fs → LegalOn honest s tapes (es ++ fs)
legal_on-append true s tapes es fs h k = legal-append s tapes es fs h k
legal_on-append false s tapes es fs h k = but_append s tapes es fs h k

-- one entry
pub legal_on-one : (honest : Bool) (s : State) (tapes : List (List ℕ)) (e : Entry) → IsAnswerOn honest s tapes e → LegalOn honest s tapes (e ∷ [])
legal_on-one true s tapes e h = (h, tt)
legal_on-one false s tapes e h = (h, tt)

-- no entry
pub legal_on-none : (honest : Bool) (s : State) (tapes : List (List ℕ)) → LegalOn honest s tapes []
legal_on-none true s tapes = tt
legal_on-none false s tapes = tt
