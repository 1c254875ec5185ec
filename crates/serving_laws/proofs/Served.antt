-- What a feed of a lane tells, and what it leaves of the lane.
use Rattle.std.proofs.Common.{◌≡◌, ℕ, ◌+◌, inl, inr, ◌==◌, Bool, true, false, cond, ◌||◌, ◌&&◌, List, [], ◌∷◌, length, Option, Some, None, refl, sym, ◌∙◌, ap, subst, arith}
use Rattle.std.proofs.lemmas.Bool.{false≢true, ltb-false, lt-leb, eqb-true}
use Rattle.std.specs.Prelude.{is_none, nat_lt, nat_le}
use Rattle.voice_units.specs.Spots.{window}
use Rattle.voice_model.specs.Samples.{Tagged, spots_in_rope}
use Rattle.voice_model.specs.State.{State, Job, lane_at, with_lane, quiet_lane}
use Rattle.voice_model.specs.Step.{Outcome, outcome_of, outcome_of_why, conditions, first_of, when, refusal, first_job, window_of, window_out, heard_more, with_jobs, brought_back, served, played_on, reply_of_feed, reply_of, after_answer, after_reply, reply_by, state_by, state_after, MayReply, IsReply, IsAnswer}
use Rattle.voice_model.specs.Valid.{Every, IsLane, HasBegun, IsState}
use Rattle.voice_model.proofs.FitsOfCalls.{all_none, not_when, every_at, quiet}
use Rattle.voice_model.specs.declared.calls.Call.{Call}
use Rattle.voice_model.specs.declared.calls.Call.TheVariants as calls
use Rattle.voice_model.specs.declared.calls.Reply.{Reply}
use Rattle.voice_model.specs.declared.calls.Reply.TheVariants as replies
use Rattle.voice_model.specs.declared.calls.Why.{Why}
use Rattle.voice_model.specs.declared.calls.Why.TheVariants as why
use Rattle.voice_model.specs.declared.calls.Entry.{Entry}
use Rattle.serving_laws.specs.Lanes.{Feeds, Hears, HasNotBegun, IsAtRest, IsOver, GoesOn, Begins, first_of_lane, a_job}
use Rattle.serving_laws.proofs.Places.{set_at, set_here, is_there}
use Rattle.serving_laws.proofs.Others.{jobs_behind}

-- ---- the outcome of a feed

faulted_why : (reason : Why) → outcome_of_why reason ≡ Outcome.Faulted → reason ≡ why.DiskFault
faulted_why why.DiskFault e = refl
faulted_why why.InDoubt e = cc
faulted_why _ e = cc

pub faulted : (reply : Reply) → outcome_of reply ≡ Outcome.Faulted → reply ≡ replies.No why.DiskFault
faulted (replies.No reason) e = ap replies.No (faulted_why reason e)
faulted _ e = cc

-- ---- the first job is served

abbrev fed : State → ℕ → ℕ → State
fed home lane block = with_lane home lane (with_jobs (lane_at home lane) (served block (lane_at home lane).jobs))

fed_jobs : (home : State) (lane block : ℕ) (job : Job) (rest : List Job) → (lane_at home lane).jobs ≡ job ∷ rest → (lane_at (fed home lane block) lane).jobs ≡ served block (job ∷ rest)
fed_jobs home lane block job rest e = set_here home.lanes lane (with_jobs (lane_at home lane) (served block (lane_at home lane).jobs)) (is_there home.lanes lane job rest e) ∙ ap (served block) e

told_on :
    (b : Bool) (t : State) (lane number : ℕ) (passage : List Tagged) (heard out : ℕ) (rest : List Job) → (heard == length passage) ≡ b
    → (lane_at t lane).jobs ≡ cond b rest (a_job number passage heard out false ∷ rest)
    → GoesOn t lane number passage heard (cond b (replies.Ended number heard) (replies.Window heard out))
told_on true t lane number passage heard out rest b e = (refl, refl, eqb-true heard (length passage) b)
told_on false t lane number passage heard out rest b e = (refl, record { stopped = false; first = ap first_job e })

told :
    (stopped : Bool) (t : State) (lane block number : ℕ) (passage : List Tagged) (heard out : ℕ) (rest : List Job)
    → (lane_at t lane).jobs ≡ served block (a_job number passage heard out stopped ∷ rest)
    → GoesOn t lane number passage heard (played_on (a_job number passage heard out stopped) block)
told true t lane block number passage heard out rest e = (refl, refl)
told false t lane block number passage heard out rest e = told_on (heard == length passage) t lane number passage heard (window block (spots_in_rope passage) heard) rest refl e

-- the jobs after a window came home
abbrev Comes : State → ℕ → Option ℕ → Job → List Job → Type 0
Comes s lane back job rest = (lane_at (brought_back s lane back) lane).jobs ≡ job ∷ rest

-- a feed that nothing refuses goes on with the first job
answered :
    (s : State) (tapes : List (List ℕ)) (lane : ℕ) (back : Option ℕ) (number : ℕ) (passage : List Tagged) (heard out : ℕ) (stopped : Bool) (rest : List Job)
    → Comes s lane back (a_job number passage heard out stopped) rest
    → GoesOn (after_answer s tapes (calls.Feed lane back)) lane number passage heard (reply_of s tapes (calls.Feed lane back))
answered s tapes lane back number passage heard out stopped rest e =
    let home = brought_back s lane back in
    subst (λ jobs. GoesOn (fed home lane s.shape.block) lane number passage heard (reply_of_feed s.shape.block (first_job jobs))) (sym e)
    (told stopped (fed home lane s.shape.block) lane s.shape.block number passage heard out rest (fed_jobs home lane s.shape.block (a_job number passage heard out stopped) rest e))

by_outcome :
    (o : Outcome) (s : State) (tapes : List (List ℕ)) (lane : ℕ) (back : Option ℕ) (number : ℕ) (passage : List Tagged) (heard : ℕ) (stopped : Bool) (rest : List Job) (reply : Reply)
    → outcome_of reply ≡ o → refusal s tapes (calls.Feed lane back) ≡ None → Comes s lane back (a_job number passage heard 0 stopped) rest
    → MayReply o s tapes (calls.Feed lane back) reply
    → GoesOn (state_by o s tapes (calls.Feed lane back)) lane number passage heard reply
by_outcome Outcome.Answered s tapes lane back number passage heard stopped rest reply o free e k =
    subst (GoesOn (after_reply s tapes (calls.Feed lane back) (refusal s tapes (calls.Feed lane back))) lane number passage heard) (sym k.1)
    (subst (λ r. GoesOn (after_reply s tapes (calls.Feed lane back) r) lane number passage heard (reply_by s tapes (calls.Feed lane back) r)) (sym free)
    (answered s tapes lane back number passage heard 0 stopped rest e))
by_outcome Outcome.Faulted s tapes lane back number passage heard stopped rest reply o free e k =
    subst (GoesOn (brought_back s lane back) lane number passage heard) (sym (faulted reply o)) (record { stopped = stopped; first = ap first_job e })
by_outcome Outcome.Doubted s tapes lane back number passage heard stopped rest reply o free e k = absurd (false≢true k.0)

goes :
    (s : State) (tapes : List (List ℕ)) (caller lane : ℕ) (back : Option ℕ) (number : ℕ) (passage : List Tagged) (heard : ℕ) (stopped : Bool) (rest : List Job) (reply : Reply)
    → refusal s tapes (calls.Feed lane back) ≡ None → Comes s lane back (a_job number passage heard 0 stopped) rest
    → IsReply s tapes caller (calls.Feed lane back) reply
    → GoesOn (state_by (outcome_of reply) s tapes (calls.Feed lane back)) lane number passage heard reply
goes s tapes caller lane back number passage heard stopped rest reply free e k = by_outcome (outcome_of reply) s tapes lane back number passage heard stopped rest reply refl free e k.1

-- ---- nothing refuses a feed of a job that is known

no_refusal : (a b c : Option Why) → a ≡ None → b ≡ None → c ≡ None → first_of (a ∷ b ∷ c ∷ []) ≡ None
no_refusal None None None e f g = refl
no_refusal (Some reason) b c e f g = cc
no_refusal None (Some reason) c e f g = cc
no_refusal None None (Some reason) e f g = cc

not_so : (b : Bool) (reason : Why) → b ≡ false → when b reason ≡ None
not_so true reason e = cc
not_so false reason e = refl

unrefused :
    (s : State) (tapes : List (List ℕ)) (lane : ℕ) (back : Option ℕ) (job : Job) (rest : List Job) → IsState s → (lane_at s lane).jobs ≡ job ∷ rest
    → (nat_lt 0 (window_out s lane) && is_none back) ≡ false → refusal s tapes (calls.Feed lane back) ≡ None
unrefused s tapes lane back job rest h e out =
    let here = is_there s.lanes lane job rest e in
    let count = h.lane_count in
    no_refusal _ _ _
    (not_so (nat_le s.shape.lanes lane) (why.UnknownLane s.shape.lanes) (lt-leb s.shape.lanes lane (omega (arith, here, count))))
    (not_so (is_none (first_job (lane_at s lane).jobs)) why.NoJob (ap (λ jobs. is_none (first_job jobs)) e))
    (not_so (nat_lt 0 (window_out s lane) && is_none back) why.WindowOut out)

not_both : (b : Bool) → (b && false) ≡ false
not_both true = refl
not_both false = refl

-- ---- a window that comes back

home_jobs : (s : State) (lane m : ℕ) (job : Job) (rest : List Job) → (lane_at s lane).jobs ≡ job ∷ rest → Comes s lane (Some m) (record job { heard = job.heard + m; window = 0 }) rest
home_jobs s lane m job rest e = set_here s.lanes lane (with_jobs (lane_at s lane) (heard_more m (lane_at s lane).jobs)) (is_there s.lanes lane job rest e) ∙ ap (heard_more m) e

came_back :
    (s : State) (tapes : List (List ℕ)) (caller lane number : ℕ) (passage : List Tagged) (heard out m : ℕ) (reply : Reply) → IsState s
    → Hears s lane number passage heard out → IsReply s tapes caller (calls.Feed lane (Some m)) reply
    → GoesOn (state_by (outcome_of reply) s tapes (calls.Feed lane (Some m))) lane number passage (heard + m) reply
came_back s tapes caller lane number passage heard out m reply h known k =
    let job = a_job number passage heard out known.stopped in
    let behind = jobs_behind (lane_at s lane).jobs job known.first in
    goes s tapes caller lane (Some m) number passage (heard + m) known.stopped behind.0 reply
    (unrefused s tapes lane (Some m) job behind.0 h behind.1 (not_both (nat_lt 0 (window_out s lane))))
    (home_jobs s lane m job behind.0 behind.1) k

pub comes_back :
    (s : State) (tapes : List (List ℕ)) (e : Entry) (lane number : ℕ) (passage : List Tagged) (heard window m : ℕ) → IsState s
    → Hears s lane number passage heard window → IsAnswer s tapes e → e.call ≡ calls.Feed lane (Some m)
    → GoesOn (state_after s tapes e) lane number passage (heard + m) e.reply
comes_back s tapes e lane number passage heard window m h known k c =
    subst (λ call. GoesOn (state_by (outcome_of e.reply) s tapes call) lane number passage (heard + m) e.reply) (sym c)
    (came_back s tapes e.caller lane number passage heard window m e.reply h known (subst (λ call. IsReply s tapes e.caller call e.reply) c k))

-- ---- a feed that brings nothing back

not_out : (s : State) (lane n : ℕ) → n ≡ 0 → (nat_lt 0 n && true) ≡ false
not_out s lane n e = ap (λ n. nat_lt 0 n && true) e

fresh :
    (s : State) (tapes : List (List ℕ)) (caller lane number : ℕ) (passage : List Tagged) (heard : ℕ) (reply : Reply) → IsState s
    → Hears s lane number passage heard 0 → IsReply s tapes caller (calls.Feed lane None) reply
    → GoesOn (state_by (outcome_of reply) s tapes (calls.Feed lane None)) lane number passage heard reply
fresh s tapes caller lane number passage heard reply h known k =
    let job = a_job number passage heard 0 known.stopped in
    let behind = jobs_behind (lane_at s lane).jobs job known.first in
    goes s tapes caller lane None number passage heard known.stopped behind.0 reply
    (unrefused s tapes lane None job behind.0 h behind.1 (not_out s lane (window_out s lane) (ap window_of known.first)))
    behind.1 k

pub known_goes_on :
    (s : State) (tapes : List (List ℕ)) (e : Entry) (lane number : ℕ) (passage : List Tagged) (heard : ℕ) → IsState s
    → Hears s lane number passage heard 0 → IsAnswer s tapes e → e.call ≡ calls.Feed lane None
    → GoesOn (state_after s tapes e) lane number passage heard e.reply
known_goes_on s tapes e lane number passage heard h known k c =
    subst (λ call. GoesOn (state_by (outcome_of e.reply) s tapes call) lane number passage heard e.reply) (sym c)
    (fresh s tapes e.caller lane number passage heard e.reply h known (subst (λ call. IsReply s tapes e.caller call e.reply) c k))

goes_is_begins : (s t : State) (lane : ℕ) (job : Job) (reply : Reply) → first_of_lane s lane ≡ Some job → job.window ≡ 0 → GoesOn t lane job.number job.passage job.heard reply → Begins s t lane reply
goes_is_begins s t lane job (replies.Window at n) e w h = (job, e, h.0, h.1)
goes_is_begins s t lane job (replies.Ended number n) e w h = (job, e, h.0, h.1, h.2)
goes_is_begins s t lane job (replies.Stopped number n) e w h = (job, e, h.0, h.1)
goes_is_begins s t lane job (replies.No why.DiskFault) e w h = (job, e, w, h)
goes_is_begins s t lane job _ e w h = absurd h

some_job : (o : Option Job) → is_none o ≡ false → (job : Job) × (o ≡ Some job)
some_job None e = cc
some_job (Some job) e = (job, refl)

none_out : (n : ℕ) → (nat_lt 0 n && true) ≡ false → n ≡ 0
none_out n e = by (nat_lt 0 n) refl e
  where
    by : (b : Bool) → nat_lt 0 n ≡ b → (b && true) ≡ false → n ≡ 0
    by true f e = cc
    by false f e = let least = ltb-false 0 n f in omega (arith, least)

abbrev with_out : Job → ℕ → Job
with_out job n = a_job job.number job.passage job.heard n job.stopped

begun : (s : State) (tapes : List (List ℕ)) (caller lane : ℕ) (reply : Reply) → refusal s tapes (calls.Feed lane None) ≡ None → IsReply s tapes caller (calls.Feed lane None) reply → Begins s (state_by (outcome_of reply) s tapes (calls.Feed lane None)) lane reply
begun s tapes caller lane reply free k =
    let c = all_none (conditions s tapes (calls.Feed lane None)) free in
    let there = some_job (first_of_lane s lane) (not_when (is_none (first_of_lane s lane)) why.NoJob c.1.0) in
    let job = there.0 in
    let out : job.window ≡ 0 = sym (ap window_of there.1) ∙ none_out (window_out s lane) (not_when (nat_lt 0 (window_out s lane) && true) why.WindowOut c.1.1.0) in
    let behind = jobs_behind (lane_at s lane).jobs job there.1 in
    let same : job ≡ a_job job.number job.passage job.heard 0 job.stopped = ap (with_out job) out in
    goes_is_begins s (state_by (outcome_of reply) s tapes (calls.Feed lane None)) lane job reply there.1 out
    (goes s tapes caller lane None job.number job.passage job.heard job.stopped behind.0 reply free (behind.1 ∙ ap (λ j. j ∷ behind.0) same) k)

refused_why : (s : State) (lane : ℕ) (reason : Why) → outcome_of_why reason ≡ Outcome.Answered → Begins s s lane (replies.No reason)
refused_why s lane why.DiskFault o = cc
refused_why s lane _ o = refl

refused :
    (o : Outcome) (s : State) (tapes : List (List ℕ)) (lane : ℕ) (reply : Reply) (reason : Why) → outcome_of reply ≡ o → refusal s tapes (calls.Feed lane None) ≡ Some reason
    → MayReply o s tapes (calls.Feed lane None) reply → Begins s (state_by o s tapes (calls.Feed lane None)) lane reply
refused Outcome.Answered s tapes lane reply reason o e k =
    let told : reply ≡ replies.No reason = k.1 ∙ ap (reply_by s tapes (calls.Feed lane None)) e in
    subst (λ r. Begins s (after_reply s tapes (calls.Feed lane None) r) lane reply) (sym e)
    (subst (Begins s s lane) (sym told) (refused_why s lane reason (sym (ap outcome_of told) ∙ o)))
refused Outcome.Faulted s tapes lane reply reason o e (inl k) = absurd (false≢true k)
refused Outcome.Faulted s tapes lane reply reason o e (inr k) = let free = k.0 in cc
refused Outcome.Doubted s tapes lane reply reason o e k = absurd (false≢true k.0)

by_refusal :
    (r : Option Why) (s : State) (tapes : List (List ℕ)) (caller lane : ℕ) (reply : Reply) → refusal s tapes (calls.Feed lane None) ≡ r
    → IsReply s tapes caller (calls.Feed lane None) reply → Begins s (state_by (outcome_of reply) s tapes (calls.Feed lane None)) lane reply
by_refusal None s tapes caller lane reply e k = begun s tapes caller lane reply e k
by_refusal (Some reason) s tapes caller lane reply e k = refused (outcome_of reply) s tapes lane reply reason refl e k.1

pub begins : (s : State) (tapes : List (List ℕ)) (e : Entry) (lane : ℕ) → IsAnswer s tapes e → e.call ≡ calls.Feed lane None → Begins s (state_after s tapes e) lane e.reply
begins s tapes e lane k c =
    subst (λ call. Begins s (state_by (outcome_of e.reply) s tapes call) lane e.reply) (sym c)
    (by_refusal (refusal s tapes (calls.Feed lane None)) s tapes e.caller lane e.reply refl (subst (λ call. IsReply s tapes e.caller call e.reply) c k))

-- ---- a job that is over

-- no job behind the first one has begun
abbrev Later : List Job → Type 0
Later [] = Unit {0}
Later (job ∷ jobs) = Every (λ later. (later.heard ≡ 0) × (later.window ≡ 0)) jobs

later_of : (jobs : List Job) → HasBegun jobs → Later jobs
later_of [] h = tt
later_of (job ∷ jobs) h = h.1

later_heard : (m : ℕ) (jobs : List Job) → Later jobs → Later (heard_more m jobs)
later_heard m [] h = tt
later_heard m (job ∷ jobs) h = h

later_here : (s : State) (lane : ℕ) → IsState s → Later (lane_at s lane).jobs
later_here s lane h = later_of (lane_at s lane).jobs (every_at IsLane s.lanes lane quiet_lane quiet h.lanes).begun

later_home : (s : State) (lane : ℕ) (back : Option ℕ) → IsState s → Later (lane_at (brought_back s lane back) lane).jobs
later_home s lane None h = later_here s lane h
later_home s lane (Some m) h = set_at Later s.lanes lane _ lane (later_here s lane h) (λ e. later_heard m (lane_at s lane).jobs (later_here s lane h))

rest_of : (rest : List Job) → Every (λ later. (later.heard ≡ 0) × (later.window ≡ 0)) rest → HasNotBegun (first_job rest)
rest_of [] h = tt
rest_of (job ∷ jobs) h = h.0

over_either : (b c : Bool) (over ended window : Reply) (job : Job) (rest : List Job) → ¬ IsOver window → IsOver (cond b over (cond c ended window)) → HasNotBegun (first_job rest) → HasNotBegun (first_job (cond (b || c) rest (job ∷ rest)))
over_either true c over ended window job rest not k h = h
over_either false true over ended window job rest not k h = h
over_either false false over ended window job rest not k h = absurd (not k)

over_rest : (block : ℕ) (job : Job) (rest : List Job) → IsOver (played_on job block) → HasNotBegun (first_job rest) → HasNotBegun (first_job (served block (job ∷ rest)))
over_rest block job rest k h =
    over_either job.stopped (job.heard == length job.passage) (replies.Stopped job.number job.heard) (replies.Ended job.number job.heard)
    (replies.Window job.heard (window block (spots_in_rope job.passage) job.heard)) _ rest (λ k. k) k h

over_answered :
    (jobs : List Job) (home : State) (lane block : ℕ) → (lane_at home lane).jobs ≡ jobs → Later jobs → IsOver (reply_of_feed block (first_job jobs)) → IsAtRest (fed home lane block) lane
over_answered [] home lane block e later k = absurd k
over_answered (job ∷ rest) home lane block e later k =
    subst (λ jobs. HasNotBegun (first_job jobs)) (sym (fed_jobs home lane block job rest e)) (over_rest block job rest k (rest_of rest later))

over_by_refusal :
    (r : Option Why) (s : State) (tapes : List (List ℕ)) (lane : ℕ) (back : Option ℕ) → IsState s → IsOver (reply_by s tapes (calls.Feed lane back) r)
    → IsAtRest (after_reply s tapes (calls.Feed lane back) r) lane
over_by_refusal None s tapes lane back h k =
    let home = brought_back s lane back in
    over_answered (lane_at home lane).jobs home lane s.shape.block refl (later_home s lane back h) k
over_by_refusal (Some reason) s tapes lane back h k = absurd k

over_is_answered : (reply : Reply) → IsOver reply → outcome_of reply ≡ Outcome.Answered
over_is_answered (replies.Ended job n) k = refl
over_is_answered (replies.Stopped job n) k = refl
over_is_answered _ k = absurd k

over : (s : State) (tapes : List (List ℕ)) (caller lane : ℕ) (back : Option ℕ) (reply : Reply) → IsState s → IsReply s tapes caller (calls.Feed lane back) reply → IsOver reply → IsAtRest (state_by (outcome_of reply) s tapes (calls.Feed lane back)) lane
over s tapes caller lane back reply h k ends =
    let done = over_is_answered reply ends in
    let may = subst (λ o. MayReply o s tapes (calls.Feed lane back) reply) done k.1 in
    subst (λ o. IsAtRest (state_by o s tapes (calls.Feed lane back)) lane) (sym done)
    (over_by_refusal (refusal s tapes (calls.Feed lane back)) s tapes lane back h (subst IsOver may.1 ends))

by_call : (call : Call) (s : State) (tapes : List (List ℕ)) (caller lane : ℕ) (reply : Reply) → IsState s → IsReply s tapes caller call reply → Feeds lane call → IsOver reply → IsAtRest (state_by (outcome_of reply) s tapes call) lane
by_call (calls.Feed other back) s tapes caller lane reply h k feeds ends =
    subst (IsAtRest (state_by (outcome_of reply) s tapes (calls.Feed other back))) feeds (over s tapes caller other back reply h k ends)
by_call _ s tapes caller lane reply h k feeds ends = absurd feeds

pub rests_when_over : (s : State) (tapes : List (List ℕ)) (e : Entry) (lane : ℕ) → IsState s → IsAnswer s tapes e → Feeds lane e.call → IsOver e.reply → IsAtRest (state_after s tapes e) lane
rests_when_over s tapes e lane h k feeds ends = by_call e.call s tapes e.caller lane e.reply h k feeds ends
