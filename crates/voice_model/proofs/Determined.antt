-- A history is determined by its calls, by which of them met a device fault, and by the state that it begins in.
use Rattle.std.proofs.Common.{◌≡◌, ℕ, List, [], ◌∷◌, ◌++◌, refl, sym, ◌∙◌, ap, subst}
use Rattle.voice_model.specs.State.{State}
use Rattle.voice_model.specs.Step.{Outcome, outcome_of, outcome_of_why, state_after, MayReply, IsReply, Step, Legal, after}
use Rattle.voice_model.specs.declared.calls.Call.{Call}
use Rattle.voice_model.specs.declared.calls.Call.TheVariants as calls
use Rattle.voice_model.specs.declared.calls.Reply.{Reply}
use Rattle.voice_model.specs.declared.calls.Reply.TheVariants as replies
use Rattle.voice_model.specs.declared.calls.Why.{Why}
use Rattle.voice_model.specs.declared.calls.Why.TheVariants as why
use Rattle.voice_model.specs.declared.calls.Entry.{Entry}

pub one_state : (s : State) (tapes : List (List ℕ)) (e : Entry) (t u : State) → Step s tapes e t → Step s tapes e u → t ≡ u
one_state s tapes e t u h k = h.state ∙ sym k.state

-- the one reply of an outcome of a fault
faulted_why : (reason : Why) → outcome_of_why reason ≡ Outcome.Faulted → reason ≡ why.DiskFault
faulted_why why.DiskFault e = refl
faulted_why why.InDoubt e = cc
faulted_why _ e = cc

faulted : (reply : Reply) → outcome_of reply ≡ Outcome.Faulted → reply ≡ replies.No why.DiskFault
faulted (replies.No reason) e = ap replies.No (faulted_why reason e)
faulted _ e = cc

doubted_why : (reason : Why) → outcome_of_why reason ≡ Outcome.Doubted → reason ≡ why.InDoubt
doubted_why why.InDoubt e = refl
doubted_why why.DiskFault e = cc
doubted_why _ e = cc

doubted : (reply : Reply) → outcome_of reply ≡ Outcome.Doubted → reply ≡ replies.No why.InDoubt
doubted (replies.No reason) e = ap replies.No (doubted_why reason e)
doubted _ e = cc

same_outcome : (s : State) (tapes : List (List ℕ)) (call : Call) (r q : Reply) (o : Outcome) → outcome_of r ≡ o → outcome_of q ≡ o → MayReply o s tapes call r → MayReply o s tapes call q → r ≡ q
same_outcome s tapes call r q Outcome.Answered e f h k = h.1 ∙ sym k.1
same_outcome s tapes call r q Outcome.Faulted e f h k = faulted r e ∙ sym (faulted q f)
same_outcome s tapes call r q Outcome.Doubted e f h k = doubted r e ∙ sym (doubted q f)

-- the reply is determined by the call and its outcome
pub one_reply : (s : State) (tapes : List (List ℕ)) (m n : ℕ) (call : Call) (r q : Reply) → outcome_of r ≡ outcome_of q → IsReply s tapes m call r → IsReply s tapes n call q → r ≡ q
one_reply s tapes m n calls.Landed r q e h k = h.1 ∙ sym k.1
one_reply s tapes m n call r q e h k = same_outcome s tapes call r q (outcome_of q) e refl (subst (λ o. MayReply o s tapes call r) e h.1) k.1

pub after-append : (s : State) (tapes : List (List ℕ)) (es fs : List Entry) → after s tapes (es ++ fs) ≡ after (after s tapes es) tapes fs
after-append s tapes [] fs = refl
after-append s tapes (e ∷ es) fs = after-append (state_after s tapes e) tapes es fs

pub legal-append : (s : State) (tapes : List (List ℕ)) (es fs : List Entry) → Legal s tapes es → Legal (after s tapes es) tapes fs → Legal s tapes (es ++ fs)
legal-append s tapes [] fs h k = k
legal-append s tapes (e ∷ es) fs h k = (h.0, legal-append (state_after s tapes e) tapes es fs h.1 k)
