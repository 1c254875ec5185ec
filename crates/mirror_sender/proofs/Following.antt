-- States that a sender follows, and what entries leave of them.
use Rattle.std.proofs.Common.{◌≡◌, ◌⊎◌, inl, inr, ℕ, ◌+◌, ◌-◌, ◌<◌, ◌≤◌, ◌==◌, Bool, true, false, cond, not, ◌&&◌, ◌||◌, List, [], ◌∷◌, ◌++◌, map, length, Option, Some, None, refl, sym, ◌∙◌, ap, ap₂, subst, arith}
use Rattle.std.specs.Prelude.{slice_set, slice_index_or, unwrap_or, is_some, is_none, IsTrue, nat_le}
use Rattle.std.proofs.lemmas.Bool.{leb-false}
use Rattle.std.proofs.lemmas.List.{append-nil}
use Rattle.voice_units.specs.declared.shapes.Shape.{Shape}
use Rattle.voice_model.specs.Samples.{Tagged}
use Rattle.voice_model.specs.State.{State, Durable, LaneState, Effect, Pending, lane_at, with_lane, quiet_lane}
use Rattle.voice_model.specs.Changes.{effect_of, is_changing, changed, committed, taking_of, form_after_switch, frame_size, base_size}
use Rattle.voice_model.specs.Step.{Outcome, outcome_of, refusal, conditions, reply_of, reply_by, brought_back, windows_home, with_jobs, heard_more, served, stopped_job, on_lanes, with_change, after_answer, after_reply, after_landing, landed, answered, closed, recording_closed, asked_in, state_by, state_after, nothing_to_land, MayReply, IsReply, IsAnswer, BringsItsWindow, found}
use Rattle.voice_model.specs.Valid.{IsState, InRange, IsFit, MayFit, IsPending}
use Rattle.voice_model.specs.declared.calls.Call.{Call}
use Rattle.voice_model.specs.declared.calls.Call.TheVariants as calls
use Rattle.voice_model.specs.declared.calls.Reply.{Reply}
use Rattle.voice_model.specs.declared.calls.Reply.TheVariants as replies
use Rattle.voice_model.specs.declared.calls.Why.{Why}
use Rattle.voice_model.specs.declared.calls.Why.TheVariants as why
use Rattle.voice_model.specs.declared.calls.Entry.{Entry}
use Rattle.voice_model.proofs.StatesKept.{state_kept}
use Rattle.voice_model.proofs.FitsOfCalls.{all_none, not_when, fit_call}
use Rattle.mirror_packets.specs.Packets.{packets_spelling}
use Rattle.mirror_sender.specs.declared.sender.Sender.{Sender}
use Rattle.mirror_sender.specs.declared.noting.Course.{Course}
use Rattle.mirror_sender.specs.declared.noting.Course.TheVariants as courses
use Rattle.mirror_sender.specs.Sent.{sent, sent_by, answered_effect, unless_refused, packets_of}
use Rattle.mirror_sender.specs.Told.{IsLike}
use Rattle.mirror_sender.specs.Abreast.{IsDoubt, IsAbreast, IsAbreastBy, MayNote, MayAnswer, MayHold, MayBeAnswered, Follows, course_of, doubted, is_quiet}
use Rattle.mirror_sender.proofs.Takings.{taking_still}

-- ---- what is not followed

-- two states alike in all that a sender follows
pub record IsStill (s t : State) : Type 0 where
  pub kept : t.kept ≡ s.kept
  pub form : t.form ≡ s.form
  pub doubt : t.doubt ≡ s.doubt
  pub taking : (lane : ℕ) → taking_of t lane ≡ taking_of s lane

still_itself : (s : State) → IsStill s s
still_itself s = record { kept = refl; form = refl; doubt = refl; taking = λ lane. refl }

still_then : (s t u : State) → IsStill s t → IsStill t u → IsStill s u
still_then s t u h k = record { kept = k.kept ∙ h.kept; form = k.form ∙ h.form; doubt = k.doubt ∙ h.doubt; taking = λ lane. k.taking lane ∙ h.taking lane }

still_lane : (s : State) (lane : ℕ) (value : LaneState) → unwrap_or value.taking [] ≡ taking_of s lane → IsStill s (with_lane s lane value)
still_lane s lane value same = record { kept = refl; form = refl; doubt = refl; taking = taking_still s.lanes lane value same }

still_brought : (s : State) (lane : ℕ) (back : Option ℕ) → IsStill s (brought_back s lane back)
still_brought s lane None = still_itself s
still_brought s lane (Some m) = still_lane s lane (with_jobs (lane_at s lane) (heard_more m (lane_at s lane).jobs)) refl

pub still_home : (s : State) (call : Call) → IsStill s (windows_home s call)
still_home s (calls.Feed lane back) = still_brought s lane back
still_home s call = still_itself s

none_open : (lane : LaneState) → is_some lane.taking ≡ false → [] ≡ unwrap_or lane.taking []
none_open lane e = by lane.taking e
  where
    by : (o : Option (List ℕ)) → is_some o ≡ false → [] ≡ unwrap_or o []
    by None e = refl
    by (Some bytes) e = cc

pub still_answered : (s : State) (tapes : List (List ℕ)) (call : Call) → is_quiet call ≡ true → refusal s tapes call ≡ None → IsStill s (after_answer s tapes call)
still_answered s tapes (calls.Length id) quiet free = still_itself s
still_answered s tapes (calls.Describe id) quiet free = still_itself s
still_answered s tapes (calls.Levels id) quiet free = still_itself s
still_answered s tapes (calls.Lookup class key) quiet free = still_itself s
still_answered s tapes (calls.Play lane id start len) quiet free =
    let h = taking_still s.lanes lane (with_jobs (lane_at s lane) _) refl in
    record { kept = refl; form = refl; doubt = refl; taking = h }
still_answered s tapes (calls.Feed lane back) quiet free =
    let home = brought_back s lane back in
    still_then s home _ (still_brought s lane back) (still_lane home lane (with_jobs (lane_at home lane) (served s.shape.block (lane_at home lane).jobs)) refl)
still_answered s tapes (calls.Stop lane) quiet free = still_lane s lane (with_jobs (lane_at s lane) (map stopped_job (lane_at s lane).jobs)) refl
still_answered s tapes (calls.Begin lane) quiet free =
    let c = all_none (conditions s tapes (calls.Begin lane)) free in
    still_lane s lane (record (lane_at s lane) { taking = Some [] }) (none_open (lane_at s lane) (not_when (is_some (lane_at s lane).taking) why.LaneRecording c.1.0))
still_answered s tapes call quiet free = cc

pub none_quiet : (s : State) (tapes : List (List ℕ)) (call : Call) → is_quiet call ≡ true → effect_of s tapes call ≡ None
none_quiet s tapes (calls.Length id) quiet = refl
none_quiet s tapes (calls.Describe id) quiet = refl
none_quiet s tapes (calls.Levels id) quiet = refl
none_quiet s tapes (calls.Lookup class key) quiet = refl
none_quiet s tapes (calls.Play lane id start len) quiet = refl
none_quiet s tapes (calls.Feed lane back) quiet = refl
none_quiet s tapes (calls.Stop lane) quiet = refl
none_quiet s tapes (calls.Begin lane) quiet = refl
none_quiet s tapes call quiet = cc

-- the sender follows the other state too
pub abreast_still : (own : Durable Tagged) (tapes : List (List ℕ)) (sender : Sender) (s t : State) → IsStill s t → IsState t → IsAbreastBy own tapes sender s → IsAbreastBy own tapes sender t
abreast_still own tapes sender s t still valid h = record {
  sound = h.sound;
  valid = valid;
  like = subst (λ (n : ℕ). IsLike sender.parts.form own n t.kept) (sym still.form) (subst (λ (d : Durable Tagged). IsLike sender.parts.form own s.form d) (sym still.kept) h.like);
  taking = λ lane. still.taking lane ∙ h.taking lane;
  doubt = subst (λ (o : Option Pending). IsDoubt own tapes sender.parts.interests.spare sender.doubt o) (sym still.doubt) h.doubt;
}

-- ---- courses

in_doubt : (r : Reply) → course_of r ≡ courses.Doubted → r ≡ replies.No why.InDoubt
in_doubt (replies.No why.InDoubt) e = refl
in_doubt r e = cc

outcome_answered : (r : Reply) → course_of r ≡ courses.Answered → outcome_of r ≡ Outcome.Answered
outcome_answered (replies.No reason) e = absurd (no_answer reason e)
  where
    no_answer : (reason : Why) → ¬ (course_of (replies.No reason) ≡ courses.Answered)
    no_answer why.InDoubt e = cc
    no_answer reason e = cc
outcome_answered r e = refl

-- a refusal is no answer
not_answered : (r : Reply) (reason : Why) → r ≡ replies.No reason → ¬ (course_of r ≡ courses.Answered)
not_answered r reason is e = by reason (ap course_of (sym is) ∙ e)
  where
    by : (reason : Why) → ¬ (course_of (replies.No reason) ≡ courses.Answered)
    by why.InDoubt e = cc
    by reason e = cc

-- what is neither answered nor in doubt failed, or was refused
abbrev IsWithout : Reply → Type 0
IsWithout r = (outcome_of r ≡ Outcome.Faulted) ⊎ ((outcome_of r ≡ Outcome.Answered) × (reason : Why) × (r ≡ replies.No reason))

without : (r : Reply) → course_of r ≡ courses.Without → IsWithout r
without (replies.No reason) e = by reason e
  where
    by : (reason : Why) → course_of (replies.No reason) ≡ courses.Without → IsWithout (replies.No reason)
    by why.DiskFault e = inl refl
    by why.InDoubt e = cc
    by reason e = inr (refl, reason, refl)
without r e = cc

-- nothing is in doubt as a change is made
pub is_sure : (s : State) (call : Call) → is_changing call ≡ true → nothing_to_land s call ≡ true → s.doubt ≡ None
is_sure s call kind land = by (is_changing call) s.doubt kind land
  where
    by : (t : Bool) (o : Option Pending) → t ≡ true → (not t || is_none o) ≡ true → o ≡ None
    by true None e h = refl
    by true (Some pending) e h = cc
    by false o e h = cc

-- ---- a change in doubt

hold_by : (tapes : List (List ℕ)) (sender : Sender) (s : State) (caller : ℕ) (call : Call) (reply : Reply) → reply ≡ replies.No why.InDoubt → IsReply s tapes caller call reply → MayReply Outcome.Doubted s tapes call reply
hold_by tapes sender s caller calls.Landed reply is k = let done = k.1 in let bad : replies.Done ≡ replies.No why.InDoubt = sym done ∙ is in cc
hold_by tapes sender s caller call reply is k = subst (λ r. MayReply (outcome_of r) s tapes call reply) is k.1

pub may_hold : (tapes : List (List ℕ)) (sender : Sender) (s : State) (e : Entry) → MayNote tapes sender s e → course_of e.reply ≡ courses.Doubted → MayHold tapes sender s e.call
may_hold tapes sender s e h course =
    let is = in_doubt e.reply course in
    let k = hold_by tapes sender s e.caller e.call e.reply is h.answer in
    record {
      abreast = h.abreast;
      free = k.2;
      sure = is_sure s e.call k.0 k.1;
      some = k.3;
      later = subst (λ r. IsState (state_by (outcome_of r) s tapes e.call)) is (state_kept s tapes e h.abreast.1.valid h.range h.answer);
    }

pub held_after : (s : State) (tapes : List (List ℕ)) (e : Entry) → course_of e.reply ≡ courses.Doubted → state_after s tapes e ≡ doubted s tapes e.call
held_after s tapes e course = ap (λ r. state_by (outcome_of r) s tapes e.call) (in_doubt e.reply course)

pub held_sent : (s : State) (tapes : List (List ℕ)) (e : Entry) → course_of e.reply ≡ courses.Doubted → sent s tapes e ≡ None
held_sent s tapes e course = ap (λ r. sent_by (outcome_of r) s tapes e.call) (in_doubt e.reply course)

-- ---- an answer

answer_by : (s : State) (tapes : List (List ℕ)) (caller : ℕ) (call : Call) (reply : Reply) → course_of reply ≡ courses.Answered → IsReply s tapes caller call reply → MayBeAnswered s tapes call
answer_by s tapes caller calls.Landed reply course k = k.2
answer_by s tapes caller call reply course k =
    let m = subst (λ o. MayReply o s tapes call reply) (outcome_answered reply course) k.1 in
    (unrefused (refusal s tapes call) m.1, m.0)
  where
    unrefused : (o : Option Why) → reply ≡ reply_by s tapes call o → o ≡ None
    unrefused None e = refl
    unrefused (Some reason) e = absurd (not_answered reply reason e course)

pub may_answer : (tapes : List (List ℕ)) (sender : Sender) (s : State) (e : Entry) → MayNote tapes sender s e → course_of e.reply ≡ courses.Answered → MayAnswer tapes sender s e.call
may_answer tapes sender s e h course = record {
  abreast = h.abreast;
  may = answer_by s tapes e.caller e.call e.reply course h.answer;
  later = subst (λ o. IsState (state_by o s tapes e.call)) (outcome_answered e.reply course) (state_kept s tapes e h.abreast.1.valid h.range h.answer);
}

pub answered_after : (s : State) (tapes : List (List ℕ)) (e : Entry) → course_of e.reply ≡ courses.Answered → state_after s tapes e ≡ answered s tapes e.call
answered_after s tapes e course = ap (λ o. state_by o s tapes e.call) (outcome_answered e.reply course)

pub answered_sent : (s : State) (tapes : List (List ℕ)) (e : Entry) → course_of e.reply ≡ courses.Answered → sent s tapes e ≡ answered_effect s tapes e.call
answered_sent s tapes e course = ap (λ o. sent_by o s tapes e.call) (outcome_answered e.reply course)

-- ---- neither

-- nothing that is followed changes, and nothing is sent
pub record IsUnsent (s : State) (tapes : List (List ℕ)) (o : Outcome) (call : Call) : Type 0 where
  pub still : IsStill s (state_by o s tapes call)
  pub none : sent_by o s tapes call ≡ None

-- a call that can be refused in its reply alone is one of which nothing is followed
quiet_reply : (s : State) (tapes : List (List ℕ)) (call : Call) (reason : Why) → ¬ (call ≡ calls.Landed) → reply_of s tapes call ≡ replies.No reason → is_quiet call ≡ true
quiet_reply s tapes (calls.Lookup class key) reason other e = refl
quiet_reply s tapes (calls.Feed lane back) reason other e = refl
quiet_reply s tapes (calls.Length id) reason other e = refl
quiet_reply s tapes (calls.Describe id) reason other e = refl
quiet_reply s tapes (calls.Levels id) reason other e = refl
quiet_reply s tapes (calls.Play lane id start len) reason other e = refl
quiet_reply s tapes (calls.Stop lane) reason other e = refl
quiet_reply s tapes (calls.Begin lane) reason other e = refl
quiet_reply s tapes call reason other e = cc

refused_still : (s : State) (tapes : List (List ℕ)) (call : Call) (o : Option Why) (reply : Reply) (reason : Why) → ¬ (call ≡ calls.Landed) → refusal s tapes call ≡ o → reply ≡ reply_by s tapes call o → reply ≡ replies.No reason → IsStill s (after_reply s tapes call o) × (unless_refused o (effect_of s tapes call) ≡ None)
refused_still s tapes call None reply reason other free e is =
    let quiet = quiet_reply s tapes call reason other (sym e ∙ is) in
    (still_answered s tapes call quiet free, none_quiet s tapes call quiet)
refused_still s tapes call (Some why) reply reason other free e is = (still_home s call, refl)

unsent_by : (s : State) (tapes : List (List ℕ)) (caller : ℕ) (call : Call) (reply : Reply) → IsWithout reply → IsReply s tapes caller call reply → IsUnsent s tapes (outcome_of reply) call
unsent_by s tapes caller calls.Landed reply w k = absurd (by reply w k.1)
  where
    by : (r : Reply) → IsWithout r → r ≡ replies.Done → ⊥
    by r (inl e) is = let bad : outcome_of replies.Done ≡ Outcome.Faulted = ap outcome_of (sym is) ∙ e in cc
    by r (inr e) is = let bad : replies.Done ≡ replies.No e.1 = sym is ∙ e.2 in cc
unsent_by s tapes caller call reply (inl e) k = subst (λ o. IsUnsent s tapes o call) (sym e) (record { still = still_home s call; none = refl })
unsent_by s tapes caller call reply (inr e) k =
    let m = subst (λ o. MayReply o s tapes call reply) e.0 k.1 in
    let r = refused_still s tapes call (refusal s tapes call) reply e.1 (λ l. cc) refl m.1 e.2 in
    subst (λ o. IsUnsent s tapes o call) (sym e.0) (record { still = r.0; none = r.1 })

pub unsent : (s : State) (tapes : List (List ℕ)) (e : Entry) → course_of e.reply ≡ courses.Without → IsAnswer s tapes e → IsUnsent s tapes (outcome_of e.reply) e.call
unsent s tapes e course h = unsent_by s tapes e.caller e.call e.reply (without e.reply course) h

-- ---- nothing was sent

pub follows_none : (tapes : List (List ℕ)) (old new : Sender) (s : State) (before after : List ℕ) (made : Option (Effect Tagged)) → IsAbreast tapes new s → made ≡ None → after ≡ before → new.next ≡ old.next → Follows tapes old new s before after made
follows_none tapes old new s before after made abreast none same next = record {
  abreast = abreast;
  bytes = same ∙ sym (append-nil before) ∙ ap (λ o. before ++ packets_spelling (packets_of old.next o)) (sym none);
  next = let count = ap (λ o. length (packets_of old.next o)) none in omega (arith, next, count);
}

pub abreast_unsent : (tapes : List (List ℕ)) (sender : Sender) (s : State) (e : Entry) → course_of e.reply ≡ courses.Without → MayNote tapes sender s e → IsAbreast tapes sender (state_after s tapes e)
abreast_unsent tapes sender s e course h =
    (h.abreast.0, abreast_still h.abreast.0 tapes sender s (state_after s tapes e) (unsent s tapes e course h.answer).still (state_kept s tapes e h.abreast.1.valid h.range h.answer) h.abreast.1)

-- a call of which nothing is followed is answered
quiet_answered : (s : State) (tapes : List (List ℕ)) (call : Call) → is_quiet call ≡ true → MayBeAnswered s tapes call → (refusal s tapes call ≡ None) × (answered s tapes call ≡ after_answer s tapes call) × (answered_effect s tapes call ≡ None)
quiet_answered s tapes calls.Landed quiet may = cc
quiet_answered s tapes call quiet may = (may.0, ap (after_reply s tapes call) may.0, ap (λ o. unless_refused o (effect_of s tapes call)) may.0 ∙ none_quiet s tapes call quiet)

pub follows_quiet : (tapes : List (List ℕ)) (sender : Sender) (s : State) (call : Call) (out : List ℕ) → is_quiet call ≡ true → MayAnswer tapes sender s call → Follows tapes sender sender (answered s tapes call) out out (answered_effect s tapes call)
follows_quiet tapes sender s call out quiet may =
    let q = quiet_answered s tapes call quiet may.may in
    let still = subst (IsStill s) (sym q.1) (still_answered s tapes call quiet q.0) in
    follows_none tapes sender sender (answered s tapes call) out out (answered_effect s tapes call)
    (may.abreast.0, abreast_still may.abreast.0 tapes sender s (answered s tapes call) still may.later may.abreast.1) q.2 refl refl
