-- Where no entry tells of a fault, nothing is ever in doubt, and nothing lands.
--     AreAnswered history      no entry tells of a fault, entry by entry
--     one_head      entries of the same call from one state have one reply
use Rattle.std.proofs.Common.{◌≡◌, ℕ, ◌+◌, Bool, true, false, cond, List, [], ◌∷◌, ◌++◌, Option, Some, None, refl, sym, ◌∙◌, ap, subst, arith}
use Rattle.std.specs.Prelude.{is_some, not, count_by}
use Rattle.std.proofs.lemmas.List.Sums.{sum_by-cons}
use Rattle.voice_model.specs.Samples.{Tagged}
use Rattle.voice_model.specs.State.{State, Effect}
use Rattle.voice_model.specs.Step.{Outcome, outcome_of, refusal, on_lanes, with_change, windows_home, after_reply, answered, state_by, state_after, IsReply, IsAnswer, Legal, after}
use Rattle.voice_model.specs.Changes.{effect_of}
use Rattle.voice_model.specs.declared.calls.Call.{Call}
use Rattle.voice_model.specs.declared.calls.Call.TheVariants as calls
use Rattle.voice_model.specs.declared.calls.Reply.{Reply}
use Rattle.voice_model.specs.declared.calls.Why.{Why}
use Rattle.voice_model.specs.declared.calls.Entry.{Entry}
use Rattle.voice_model.proofs.Determined.{one_reply}
use Rattle.voice_store.specs.Stood.{is_fault, is_fault_of}
use Rattle.voice_main.specs.RunPromise.{NoFaults}
use Rattle.servings.specs.Asked.{is_landing, asked_entries}
use Rattle.run_laws.specs.Alike.{entry_of, without_ack, without_acks, SameButAcks}

-- ---- no entry tells of a fault

abbrev pub AreAnswered : List Entry → Type 0
AreAnswered [] = Unit {0}
AreAnswered (e ∷ es) = (outcome_of e.reply ≡ Outcome.Answered) × AreAnswered es

abbrev weight_of : Outcome → ℕ
weight_of o = cond (is_fault_of o) 1 0

was_answered : (o : Outcome) → weight_of o ≡ 0 → o ≡ Outcome.Answered
was_answered Outcome.Answered p = refl
was_answered Outcome.Faulted p = absurd (omega (arith, p))
was_answered Outcome.Doubted p = absurd (omega (arith, p))

abbrev weight : Entry → ℕ
weight e = cond (is_fault e) 1 0

pub are_answered : (history : List Entry) → NoFaults history → AreAnswered history
are_answered [] p = tt
are_answered (e ∷ es) p =
    let both : weight e + count_by is_fault es ≡ 0 = sym (sum_by-cons weight e es) ∙ p in
    let first : weight e ≡ 0 = omega (arith, both) in
    let later : count_by is_fault es ≡ 0 = omega (arith, both) in
    (was_answered (outcome_of e.reply) first, are_answered es later)

pub answered_front : (es fs : List Entry) → AreAnswered (es ++ fs) → AreAnswered es
answered_front [] fs h = tt
answered_front (e ∷ es) fs h = (h.0, answered_front es fs h.1)

pub answered_back : (es fs : List Entry) → AreAnswered (es ++ fs) → AreAnswered fs
answered_back [] fs h = h
answered_back (e ∷ es) fs h = answered_back es fs h.1

-- ---- parts of legal histories

pub legal_front : (s : State) (tapes : List (List ℕ)) (es fs : List Entry) → Legal s tapes (es ++ fs) → Legal s tapes es
legal_front s tapes [] fs h = tt
legal_front s tapes (e ∷ es) fs h = (h.0, legal_front (state_after s tapes e) tapes es fs h.1)

pub legal_back : (s : State) (tapes : List (List ℕ)) (es fs : List Entry) → Legal s tapes (es ++ fs) → Legal (after s tapes es) tapes fs
legal_back s tapes [] fs h = h
legal_back s tapes (e ∷ es) fs h = legal_back (state_after s tapes e) tapes es fs h.1

-- ---- nothing is in doubt

lanes_keep : (s : State) (tapes : List (List ℕ)) (call : Call) → (on_lanes s tapes call).doubt ≡ s.doubt
lanes_keep s tapes (calls.Play lane id start len) = refl
lanes_keep s tapes (calls.Feed lane None) = refl
lanes_keep s tapes (calls.Feed lane (Some m)) = refl
lanes_keep s tapes (calls.Stop lane) = refl
lanes_keep s tapes (calls.Begin lane) = refl
lanes_keep s tapes (calls.Add lane take) = refl
lanes_keep s tapes (calls.End lane) = refl
lanes_keep s tapes _ = refl

windows_keep : (s : State) (call : Call) → (windows_home s call).doubt ≡ s.doubt
windows_keep s (calls.Feed lane None) = refl
windows_keep s (calls.Feed lane (Some m)) = refl
windows_keep s _ = refl

change_keeps : (s : State) (form : ℕ) (effect : Option (Effect Tagged)) → (with_change s form effect).doubt ≡ s.doubt
change_keeps s form None = refl
change_keeps s form (Some effect) = refl

reply_keeps : (s : State) (tapes : List (List ℕ)) (call : Call) (o : Option Why) → (after_reply s tapes call o).doubt ≡ s.doubt
reply_keeps s tapes call None = change_keeps (on_lanes s tapes call) s.form (effect_of s tapes call) ∙ lanes_keep s tapes call
reply_keeps s tapes call (Some reason) = windows_keep s call

answer_keeps : (s : State) (tapes : List (List ℕ)) (call : Call) → is_landing call ≡ false → (answered s tapes call).doubt ≡ s.doubt
answer_keeps s tapes calls.Landed p = cc
answer_keeps s tapes call p = reply_keeps s tapes call (refusal s tapes call)

no_landing : (s : State) (tapes : List (List ℕ)) (caller : ℕ) (call : Call) (reply : Reply) → s.doubt ≡ None → IsReply s tapes caller call reply → is_landing call ≡ false
no_landing s tapes caller calls.Landed reply none h = let some : is_some s.doubt ≡ true = h.2 in let not : is_some s.doubt ≡ false = ap is_some none in cc
no_landing s tapes caller _ reply none h = refl

pub still_sure : (s : State) (tapes : List (List ℕ)) (e : Entry) → s.doubt ≡ None → IsAnswer s tapes e → outcome_of e.reply ≡ Outcome.Answered → (state_after s tapes e).doubt ≡ None
still_sure s tapes e none h o =
    ap (λ (x : Outcome). (state_by x s tapes e.call).doubt) o ∙ answer_keeps s tapes e.call (no_landing s tapes e.caller e.call e.reply none h) ∙ none

pub sure_after : (s : State) (tapes : List (List ℕ)) (es : List Entry) → s.doubt ≡ None → Legal s tapes es → AreAnswered es → (after s tapes es).doubt ≡ None
sure_after s tapes [] none h a = none
sure_after s tapes (e ∷ es) none h a = sure_after (state_after s tapes e) tapes es (still_sure s tapes e none h.0 a.0) h.1 a.1

-- each entry was asked
pub all_asked : (s : State) (tapes : List (List ℕ)) (es : List Entry) → s.doubt ≡ None → Legal s tapes es → AreAnswered es → asked_entries es ≡ es
all_asked s tapes [] none h a = refl
all_asked s tapes (e ∷ es) none h a =
    ap (λ (b : Bool). cond (not b) (e ∷ asked_entries es) (asked_entries es)) (no_landing s tapes e.caller e.call e.reply none h.0)
    ∙ ap (λ (xs : List Entry). e ∷ xs) (all_asked (state_after s tapes e) tapes es (still_sure s tapes e none h.0 a.0) h.1 a.1)

-- ---- one entry

pub one_head : (s : State) (tapes : List (List ℕ)) (e f : Entry) → e.call ≡ f.call → IsAnswer s tapes e → IsAnswer s tapes f → outcome_of e.reply ≡ Outcome.Answered → outcome_of f.reply ≡ Outcome.Answered → e.reply ≡ f.reply
one_head s tapes e f same h k o p =
    one_reply s tapes e.caller f.caller f.call e.reply f.reply (o ∙ sym p) (subst (λ (c : Call). IsReply s tapes e.caller c e.reply) same h) k

pub one_state_after : (s : State) (tapes : List (List ℕ)) (e f : Entry) → e.call ≡ f.call → e.reply ≡ f.reply → state_after s tapes e ≡ state_after s tapes f
one_state_after s tapes e f same replied = λ i. state_by (outcome_of (replied i)) s tapes (same i)

pub same_entry : (e f : Entry) → e.caller ≡ f.caller → e.call ≡ f.call → e.reply ≡ f.reply → without_ack e ≡ without_ack f
same_entry e f by same replied = λ i. entry_of (by i) (same i) (replied i)

pub same_cons : (e f : Entry) (es fs : List Entry) → without_ack e ≡ without_ack f → SameButAcks es fs → SameButAcks (e ∷ es) (f ∷ fs)
same_cons e f es fs p q = λ i. p i ∷ q i

pub same_append : (es fs : List Entry) → without_acks (es ++ fs) ≡ without_acks es ++ without_acks fs
same_append [] fs = refl
same_append (e ∷ es) fs = ap (λ (xs : List Entry). without_ack e ∷ xs) (same_append es fs)

-- ---- moments don't count

pub after_without : (s : State) (tapes : List (List ℕ)) (es : List Entry) → after s tapes (without_acks es) ≡ after s tapes es
after_without s tapes [] = refl
after_without s tapes (e ∷ es) = after_without (state_after s tapes e) tapes es

pub after_same : (s : State) (tapes : List (List ℕ)) (es fs : List Entry) → SameButAcks es fs → after s tapes es ≡ after s tapes fs
after_same s tapes es fs p = sym (after_without s tapes es) ∙ ap (after s tapes) p ∙ after_without s tapes fs
