-- The entries of a serving: a window that is brought back is that of a job that isn't stopped, so all of it was heard.
--     Awaits lane awaited s      where a window is awaited, the lane's first job isn't stopped
use Rattle.std.proofs.Common.{◌≡◌, ◌⊎◌, inl, inr, ℕ, zero, suc, ◌==◌, ◌||◌, Bool, true, false, cond, List, [], ◌∷◌, length, Option, Some, None, refl, sym, ◌∙◌, ap, subst}
use Rattle.std.specs.Prelude.{slice_set, slice_index_or}
use Rattle.voice_units.specs.Spots.{window}
use Rattle.voice_model.specs.Samples.{spots_in_rope}
use Rattle.voice_model.specs.State.{State, Job, LaneState, lane_at, with_lane, quiet_lane}
use Rattle.voice_model.specs.Step.{Outcome, outcome_of, refusal, first_job, heard_more, with_jobs, brought_back, served, reply_of_feed, reply_by, after_reply, state_by, state_after, MayReply, IsReply, IsAnswer, Legal}
use Rattle.voice_model.specs.Follows.{Awaited, IsStopped, IsAwaited, after_feed, then_awaited, Goes_on, Serving}
use Rattle.voice_model.specs.declared.calls.Call.{Call}
use Rattle.voice_model.specs.declared.calls.Call.TheVariants as calls
use Rattle.voice_model.specs.declared.calls.Reply.{Reply}
use Rattle.voice_model.specs.declared.calls.Reply.TheVariants as replies
use Rattle.voice_model.specs.declared.calls.Why.{Why}
use Rattle.voice_model.specs.declared.calls.Why.TheVariants as why
use Rattle.voice_model.specs.declared.calls.Entry.{Entry}
use Rattle.servings.specs.Asked.{AreBy}
use Rattle.run_laws.specs.Alike.{without_acks, SameButAcks}
use Rattle.run_laws.proofs.Quiet.{AreAnswered, one_head, one_state_after, same_entry, same_cons}

-- a lane that is set is what it was set to, or there is no such lane
set_or : (lanes : List LaneState) (n : ℕ) (v d : LaneState) → (slice_index_or (slice_set lanes n v) n d ≡ v) ⊎ (slice_index_or lanes n d ≡ d)
set_or [] n v d = inr refl
set_or (x ∷ lanes) zero v d = inl refl
set_or (x ∷ lanes) (suc n) v d = set_or lanes n v d

abbrev pub IsGoing : Option Job → Type 0
IsGoing None = ⊥
IsGoing (Some job) = job.stopped ≡ false

abbrev jobs_at : State → ℕ → List Job
jobs_at s lane = (lane_at s lane).jobs

abbrev pub Awaits : ℕ → Awaited → State → Type 0
Awaits lane (Awaited.Back n) s = IsGoing (first_job (jobs_at s lane))
Awaits lane _ s = Unit {0}

-- ---- a window is awaited where one went out

abbrev IsWindow : Reply → Type 0
IsWindow (replies.Window at n) = Unit {0}
IsWindow _ = ⊥

going_served : (block : ℕ) (jobs : List Job) → IsWindow (reply_of_feed block (first_job jobs)) → IsGoing (first_job (served block jobs))
going_served block [] w = w
going_served block (job ∷ jobs) w = by job.stopped (job.heard == length job.passage) refl w
  where
    by : (stopped ended : Bool) → job.stopped ≡ stopped
        → IsWindow (cond stopped (replies.Stopped job.number job.heard) (cond ended (replies.Ended job.number job.heard) (replies.Window job.heard (window block (spots_in_rope job.passage) job.heard))))
        → IsGoing (first_job (cond (stopped || ended) jobs (record job { window = window block (spots_in_rope job.passage) job.heard } ∷ jobs)))
    by true ended e w = absurd w
    by false true e w = absurd w
    by false false e w = e

-- the lane after a feed that was answered
going_set : (home : State) (lane : ℕ) → IsWindow (reply_of_feed home.shape.block (first_job (jobs_at home lane)))
    → IsGoing (first_job (jobs_at (with_lane home lane (with_jobs (lane_at home lane) (served home.shape.block (jobs_at home lane)))) lane))
going_set home lane w = elim (set_or home.lanes lane (with_jobs (lane_at home lane) (served home.shape.block (jobs_at home lane))) quiet_lane) [
  | inl is ↦ subst (λ (l : LaneState). IsGoing (first_job l.jobs)) (sym is) (going_served home.shape.block (jobs_at home lane) w)
  | inr quiet ↦ absurd (subst (λ (l : LaneState). IsWindow (reply_of_feed home.shape.block (first_job l.jobs))) quiet w)
]

going_fed : (s : State) (tapes : List (List ℕ)) (lane : ℕ) (back : Option ℕ) (o : Option Why) → IsWindow (reply_by s tapes (calls.Feed lane back) o)
    → IsGoing (first_job (jobs_at (after_reply s tapes (calls.Feed lane back) o) lane))
going_fed s tapes lane None None w = going_set s lane w
going_fed s tapes lane (Some m) None w = going_set (brought_back s lane (Some m)) lane w
going_fed s tapes lane back (Some reason) w = absurd w

answer_of : (s : State) (tapes : List (List ℕ)) (lane : ℕ) (back : Option ℕ) (e : Entry) → e.call ≡ calls.Feed lane back → IsAnswer s tapes e → outcome_of e.reply ≡ Outcome.Answered
    → e.reply ≡ reply_by s tapes (calls.Feed lane back) (refusal s tapes (calls.Feed lane back))
answer_of s tapes lane back e same h o =
    let k : IsReply s tapes e.caller (calls.Feed lane back) e.reply = subst (λ (c : Call). IsReply s tapes e.caller c e.reply) same h in
    (subst (λ (x : Outcome). MayReply x s tapes (calls.Feed lane back) e.reply) o k.1).1

window_goes : (s : State) (tapes : List (List ℕ)) (lane : ℕ) (back : Option ℕ) (e : Entry) → e.call ≡ calls.Feed lane back → IsAnswer s tapes e → outcome_of e.reply ≡ Outcome.Answered
    → IsWindow e.reply → IsGoing (first_job (jobs_at (state_after s tapes e) lane))
window_goes s tapes lane back e same h o w =
    subst (λ (x : State). IsGoing (first_job (jobs_at x lane))) (sym (λ i. state_by (o i) s tapes (same i)))
    (going_fed s tapes lane back (refusal s tapes (calls.Feed lane back)) (subst IsWindow (answer_of s tapes lane back e same h o) w))

-- ---- no job that goes on is answered as stopped

going_heard : (m : ℕ) (jobs : List Job) → IsGoing (first_job jobs) → IsGoing (first_job (heard_more m jobs))
going_heard m [] g = g
going_heard m (job ∷ jobs) g = g

going_home : (s : State) (lane m : ℕ) → IsGoing (first_job (jobs_at s lane)) → IsGoing (first_job (jobs_at (brought_back s lane (Some m)) lane))
going_home s lane m g = elim (set_or s.lanes lane (with_jobs (lane_at s lane) (heard_more m (jobs_at s lane))) quiet_lane) [
  | inl is ↦ subst (λ (l : LaneState). IsGoing (first_job l.jobs)) (sym is) (going_heard m (jobs_at s lane) g)
  | inr quiet ↦ absurd (subst (λ (l : LaneState). IsGoing (first_job l.jobs)) quiet g)
]

not_stopped : (block : ℕ) (o : Option Job) → IsGoing o → IsStopped (reply_of_feed block o) → ⊥
not_stopped block None g w = g
not_stopped block (Some job) g w = by (job.heard == length job.passage) (subst (λ (b : Bool). IsStopped (cond b (replies.Stopped job.number job.heard) unstopped)) g w)
  where
    unstopped : Reply
    unstopped = cond (job.heard == length job.passage) (replies.Ended job.number job.heard) (replies.Window job.heard (window block (spots_in_rope job.passage) job.heard))

    by : (ended : Bool) → IsStopped (cond ended (replies.Ended job.number job.heard) (replies.Window job.heard (window block (spots_in_rope job.passage) job.heard))) → ⊥
    by true w = w
    by false w = w

feed_not_stopped : (s : State) (tapes : List (List ℕ)) (lane m : ℕ) (o : Option Why) → IsGoing (first_job (jobs_at s lane)) → IsStopped (reply_by s tapes (calls.Feed lane (Some m)) o) → ⊥
feed_not_stopped s tapes lane m None g w = not_stopped s.shape.block (first_job (jobs_at (brought_back s lane (Some m)) lane)) (going_home s lane m g) w
feed_not_stopped s tapes lane m (Some reason) g w = w

-- ---- what is awaited

-- the call that is awaited, as all of a window was heard
abbrev call_awaited : ℕ → Awaited → Call
call_awaited lane Awaited.First = calls.Feed lane None
call_awaited lane (Awaited.Back n) = calls.Feed lane (Some n)
call_awaited lane Awaited.Halt = calls.Stop lane

is_call_awaited : (s : State) (tapes : List (List ℕ)) (lane : ℕ) (awaited : Awaited) (e : Entry) → Awaits lane awaited s → IsAwaited lane awaited e.call e.reply → IsAnswer s tapes e → outcome_of e.reply ≡ Outcome.Answered
    → e.call ≡ call_awaited lane awaited
is_call_awaited s tapes lane Awaited.First e g is h o = is
is_call_awaited s tapes lane Awaited.Halt e g is h o = is
is_call_awaited s tapes lane (Awaited.Back n) e g is h o = elim is.2 [
  | inl all ↦ is.1 ∙ ap (λ (m : ℕ). calls.Feed lane (Some m)) all
  | inr less ↦ absurd (feed_not_stopped s tapes lane is.0 (refusal s tapes (calls.Feed lane (Some is.0))) g (subst IsStopped (answer_of s tapes lane (Some is.0) e is.1 h o) less.1))
]

window_out : (reply : Reply) (n : ℕ) → after_feed reply ≡ Some (Awaited.Back n) → IsWindow reply
window_out (replies.Window at m) n p = tt
window_out (replies.No why.DiskFault) n p = cc
window_out (replies.No _) n p = cc
window_out _ n p = cc

awaits_next : (s : State) (tapes : List (List ℕ)) (lane : ℕ) (awaited next : Awaited) (e : Entry) → e.call ≡ call_awaited lane awaited → IsAnswer s tapes e → outcome_of e.reply ≡ Outcome.Answered
    → then_awaited awaited e.reply ≡ Some next → Awaits lane next (state_after s tapes e)
awaits_next s tapes lane awaited Awaited.First e same h o p = tt
awaits_next s tapes lane awaited Awaited.Halt e same h o p = tt
awaits_next s tapes lane Awaited.First (Awaited.Back n) e same h o p = window_goes s tapes lane None e same h o (window_out e.reply n p)
awaits_next s tapes lane (Awaited.Back m) (Awaited.Back n) e same h o p = window_goes s tapes lane (Some m) e same h o (window_out e.reply n p)
awaits_next s tapes lane Awaited.Halt (Awaited.Back n) e same h o p = cc

-- ---- servings

on_or_over : (lane : ℕ) (o : Option Awaited) (es fs : List Entry) → Goes_on o (λ next. Serving lane next es) (es ≡ []) → Goes_on o (λ next. Serving lane next fs) (fs ≡ [])
    → ((next : Awaited) → o ≡ Some next → Serving lane next es → Serving lane next fs → SameButAcks es fs) → SameButAcks es fs
on_or_over lane None es fs p q later = ap without_acks (p ∙ sym q)
on_or_over lane (Some next) es fs p q later = later next refl p q

pub serving_alike : (s : State) (tapes : List (List ℕ)) (lane caller : ℕ) (awaited : Awaited) (es fs : List Entry) → Awaits lane awaited s → Serving lane awaited es → Serving lane awaited fs
    → AreBy caller es → AreBy caller fs → Legal s tapes es → Legal s tapes fs → AreAnswered es → AreAnswered fs → SameButAcks es fs
serving_alike s tapes lane caller awaited [] fs g p q b c h k a d = absurd p
serving_alike s tapes lane caller awaited (e ∷ es) [] g p q b c h k a d = absurd q
serving_alike s tapes lane caller awaited (e ∷ es) (f ∷ fs) g p q b c h k a d =
    let mine : e.call ≡ call_awaited lane awaited = is_call_awaited s tapes lane awaited e g p.0 h.0 a.0 in
    let other : f.call ≡ call_awaited lane awaited = is_call_awaited s tapes lane awaited f g q.0 k.0 d.0 in
    let same : e.call ≡ f.call = mine ∙ sym other in
    let replied : e.reply ≡ f.reply = one_head s tapes e f same h.0 k.0 a.0 d.0 in
    let state : state_after s tapes e ≡ state_after s tapes f = one_state_after s tapes e f same replied in
    same_cons e f es fs (same_entry e f (b.0 ∙ sym c.0) same replied)
    (on_or_over lane (then_awaited awaited e.reply) es fs p.1 (subst (λ (r : Reply). Goes_on (then_awaited awaited r) (λ next. Serving lane next fs) (fs ≡ [])) (sym replied) q.1)
    (λ next is on on'. serving_alike (state_after s tapes e) tapes lane caller next es fs (awaits_next s tapes lane awaited next e mine h.0 a.0 is) on on' b.1 c.1 h.1 (subst (λ (x : State). Legal x tapes fs) (sym state) k.1) a.1 d.1))
