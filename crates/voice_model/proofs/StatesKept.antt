-- Every state that a legal history reaches keeps what states keep.
use Rattle.std.proofs.Common.{◌≡◌, ℕ, zero, suc, ◌+◌, ◌-◌, ◌≤◌, ◌⊎◌, inl, inr, ◌^◌, ◌==◌, Bool, true, false, cond, ◌||◌, List, [], ◌∷◌, ◌++◌, map, length, take, replicate, Option, Some, None, refl, sym, ◌∙◌, ap, subst, arith}
use Rattle.std.proofs.lemmas.Bool.{ltb-false, leb-false}
use Rattle.std.proofs.Common.{length-append}
use Rattle.std.specs.Prelude.{is_some, is_none, nat_lt, nat_le, slice_set, unwrap_or}
use Rattle.voice_units.specs.Spots.{window, slice}
use Rattle.voice_units.specs.declared.shapes.Shape.{Shape}
use Rattle.voice_units.proofs.Counts.{window_within}
use Rattle.voice_model.specs.Samples.{Tagged, spots_in_rope}
use Rattle.voice_model.specs.State.{State, Durable, Job, LaneState, Effect, Pending, lane_at, with_lane, quiet_lane, samples_of, formatted}
use Rattle.voice_model.specs.Changes.{effect_of, changed, committed, frame_size, base_size, form_after_switch, taking_of}
use Rattle.voice_model.specs.Step.{conditions, refusal, first_job, window_of, heard_more, served, brought_back, with_jobs, stopped_job, closed, with_change, after_answer, windows_home, recording_closed, asked_in, after_landing, landed, answered, after_reply, state_by, state_after, outcome_of, Outcome, BringsItsWindow, MayReply, IsReply, IsAnswer, Legal, after, nothing_to_land}
use Rattle.voice_model.specs.Tapes.{taken}
use Rattle.voice_model.specs.Valid.{Every, IsKept, IsFit, MayFit, IsLane, HasBegun, IsTaking, IsPending, IsState, InRange}
use Rattle.voice_model.proofs.KeptByChanges.{kept_changed, kept_in_form_2, every-append, every-map}
use Rattle.voice_model.proofs.FitsOfCalls.{fit_call, all_none, not_when, not_long, every_at, quiet}
use Rattle.voice_model.specs.declared.calls.Call.{Call}
use Rattle.voice_model.specs.declared.calls.Call.TheVariants as calls
use Rattle.voice_model.specs.declared.calls.Reply.{Reply}
use Rattle.voice_model.specs.declared.calls.Why.{Why}
use Rattle.voice_model.specs.declared.calls.Why.TheVariants as why
use Rattle.voice_model.specs.declared.calls.Entry.{Entry}

-- ---- a change is committed

kept_either : (fits small : Bool) (form : ℕ) (d : Durable Tagged) → (form ≡ 1) ⊎ (form ≡ 2) → IsKept form d → IsKept (cond fits form (cond ((form == 2) || small) 2 1)) d
kept_either true small form d forms h = h
kept_either false small form d (inl e) h = by small (subst (λ f. IsKept f d) e h)
  where
    by : (small : Bool) → IsKept 1 d → IsKept (cond ((form == 2) || small) 2 1) d
    by true k = subst (λ f. IsKept (cond ((f == 2) || true) 2 1) d) (sym e) (kept_in_form_2 1 d k)
    by false k = subst (λ f. IsKept (cond ((f == 2) || false) 2 1) d) (sym e) k
kept_either false small form d (inr e) h = subst (λ f. IsKept (cond ((f == 2) || small) 2 1) d) (sym e) (subst (λ f. IsKept f d) e h)

abbrev one_or_two : Bool → ℕ
one_or_two b = cond b 2 1

abbrev IsForm : ℕ → Type 0
IsForm form = (form ≡ 1) ⊎ (form ≡ 2)

forms_either : (fits small : Bool) (form : ℕ) → IsForm form → IsForm (cond fits form (one_or_two ((form == 2) || small)))
forms_either true small form forms = forms
forms_either false small form forms = by ((form == 2) || small)
  where
    by : (b : Bool) → IsForm (one_or_two b)
    by true = inr refl
    by false = inl refl

changed_shape : (form : ℕ) (d : Durable Tagged) (e : Effect Tagged) → (changed form d e).shape ≡ d.shape
changed_shape form d (Effect.Recorded id samples) = refl
changed_shape form d (Effect.Edited id samples) = refl
changed_shape form d (Effect.Retained row) = refl
changed_shape form d (Effect.Forgotten class key) = refl
changed_shape form d (Effect.Counted keys) = refl
changed_shape form d (Effect.Swept ids) = refl
changed_shape form d (Effect.Advanced moment) = refl

rest_either : (fits : Bool) (left frame base most : ℕ) → left ≤ most → cond fits (left - frame) (most - base) ≤ most
rest_either true left frame base most h = omega (arith, h)
rest_either false left frame base most h = omega (arith, h)

newest_either : (fits small : Bool) (form : ℕ) → form ≡ 2 → cond fits form (one_or_two ((form == 2) || small)) ≡ 2
newest_either true small form e = e
newest_either false small form e = subst (λ n. one_or_two ((n == 2) || small) ≡ 2) (sym e) refl

state_committed : (s : State) (effect : Effect Tagged) → IsState s → s.doubt ≡ None → IsFit s.form s.kept effect → IsState (committed s s.form effect)
state_committed s effect h none fit =
    let later = changed s.form s.kept effect in
    let same = changed_shape s.form s.kept effect in
    let frame = frame_size s.form s.shape.block effect in
    let base = base_size (form_after_switch s.form later) later in
    let fits = nat_le (frame_size s.form s.shape.block effect) s.left in
    let small = nat_le (base_size 2 later) (later.shape.area - 17) in
    record {
      kept = kept_either fits small s.form later h.forms (kept_changed s.form s.kept effect h.kept fit);
      forms = forms_either fits small s.form h.forms;
      doubt = subst (λ o. IsPending (committed s s.form effect) o) (sym none) tt;
      lanes = h.lanes;
      lane_count = h.lane_count ∙ ap (λ (shape : Shape). shape.lanes) (sym same);
      rest = subst (λ (shape : Shape). cond fits (s.left - frame) (s.shape.area - 17 - base) ≤ shape.area - 17) (sym same) (rest_either fits s.left frame base (s.shape.area - 17) h.rest);
      newest = λ v. newest_either fits small s.form (h.newest (ap (λ (shape : Shape). shape.version) (sym same) ∙ v));
    }

state_changed : (s : State) (o : Option (Effect Tagged)) → IsState s → s.doubt ≡ None → MayFit s.form s.kept o → IsState (with_change s s.form o)
state_changed s None h none fit = h
state_changed s (Some effect) h none fit = state_committed s effect h none fit

state_doubted : (s : State) (o : Option (Effect Tagged)) → IsState s → MayFit s.form s.kept o → IsState (record s { doubt = asked_in s.form o })
state_doubted s None h fit = record { kept = h.kept; forms = h.forms; doubt = tt; lanes = h.lanes; lane_count = h.lane_count; rest = h.rest; newest = h.newest }
state_doubted s (Some effect) h fit = record { kept = h.kept; forms = h.forms; doubt = (refl, fit); lanes = h.lanes; lane_count = h.lane_count; rest = h.rest; newest = h.newest }

state_settled : (s : State) → IsState s → IsState (record s { doubt = None })
state_settled s h = record { kept = h.kept; forms = h.forms; doubt = tt; lanes = h.lanes; lane_count = h.lane_count; rest = h.rest; newest = h.newest }

state_landed : (s : State) (o : Option Pending) → IsState s → s.doubt ≡ None → IsPending s o → IsState (after_landing s o)
state_landed s None h none k = h
state_landed s (Some pending) h none k =
    subst (λ form. IsState (committed s form pending.effect)) (sym k.0) (state_committed s pending.effect h none (subst (λ form. IsFit form s.kept pending.effect) k.0 k.1))

-- ---- lanes

every_set : {A : Type 0} (P : A → Type 0) (xs : List A) (n : ℕ) (x : A) → Every P xs → P x → Every P (slice_set xs n x)
every_set P [] n x h k = tt
every_set P (y ∷ xs) zero x h k = (k, h.1)
every_set P (y ∷ xs) (suc n) x h k = (h.0, every_set P xs n x h.1 k)

set_length : {A : Type 0} (xs : List A) (n : ℕ) (x : A) → length (slice_set xs n x) ≡ length xs
set_length [] n x = refl
set_length (y ∷ xs) zero x = refl
set_length (y ∷ xs) (suc n) x = ap suc (set_length xs n x)

state_lane : (s : State) (lane : ℕ) (value : LaneState) → IsState s → IsLane value → IsState (with_lane s lane value)
state_lane s lane value h k = record { kept = h.kept; forms = h.forms; doubt = h.doubt; lanes = every_set IsLane s.lanes lane value h.lanes k; lane_count = set_length s.lanes lane value ∙ h.lane_count; rest = h.rest; newest = h.newest }

lane_here : (s : State) (lane : ℕ) → IsState s → IsLane (lane_at s lane)
lane_here s lane h = every_at IsLane s.lanes lane quiet_lane quiet h.lanes

abbrev lane_of : List Job → Option (List ℕ) → LaneState
lane_of jobs taking = record { jobs = jobs; taking = taking }

no_job_taking : (job other : Job) (jobs others : List Job) (taking : Option (List ℕ)) → IsTaking taking (job ∷ jobs) → IsTaking taking others
no_job_taking job other jobs others None k = tt
no_job_taking job other jobs others (Some bytes) k = let no = k.1 in (k.0, cc)

heard_lane : (m : ℕ) (jobs : List Job) (taking : Option (List ℕ)) → m ≤ window_of (first_job jobs) → IsLane (lane_of jobs taking) → IsLane (lane_of (heard_more m jobs) taking)
heard_lane m [] taking e h = h
heard_lane m (job ∷ jobs) taking e h = record {
  few = h.few;
  begun = let within = h.begun.0 in (omega (arith, within, e), h.begun.1);
  taking = no_job_taking job job jobs (heard_more m (job ∷ jobs)) taking h.taking;
}

spots_length : (rope : List Tagged) → length (spots_in_rope rope) ≡ length rope
spots_length [] = refl
spots_length (t ∷ rope) = ap suc (spots_length rope)

rest_begun : (jobs : List Job) → Every (λ later. (later.heard ≡ 0) × (later.window ≡ 0)) jobs → HasBegun jobs
rest_begun [] h = tt
rest_begun (job ∷ jobs) h = let none = h.0.0 in let out = h.0.1 in (omega (arith, none, out), h.1)

served_either : (b : Bool) (block : ℕ) (job : Job) (jobs : List Job) (taking : Option (List ℕ)) → IsLane (lane_of (job ∷ jobs) taking) → IsLane (lane_of (cond b jobs (record job { window = window block (spots_in_rope job.passage) job.heard } ∷ jobs)) taking)
served_either true block job jobs taking h = record {
  few = let few = h.few in omega (arith, few);
  begun = rest_begun jobs h.begun.1;
  taking = no_job_taking job job jobs jobs taking h.taking;
}
served_either false block job jobs taking h = record {
  few = h.few;
  begun =
      let within = h.begun.0 in
      let whole = spots_length job.passage in
      let heard : job.heard ≤ length (spots_in_rope job.passage) = omega (arith, within, whole) in
      let out = window_within block (spots_in_rope job.passage) job.heard heard in
      (omega (arith, out, whole), h.begun.1);
  taking = no_job_taking job job jobs (record job { window = window block (spots_in_rope job.passage) job.heard } ∷ jobs) taking h.taking;
}

served_lane : (block : ℕ) (jobs : List Job) (taking : Option (List ℕ)) → IsLane (lane_of jobs taking) → IsLane (lane_of (served block jobs) taking)
served_lane block [] taking h = h
served_lane block (job ∷ jobs) taking h = served_either (job.stopped || (job.heard == length job.passage)) block job jobs taking h

begun_append : (jobs : List Job) (job : Job) → job.heard ≡ 0 → job.window ≡ 0 → HasBegun jobs → HasBegun (jobs ++ job ∷ [])
begun_append [] job e f h = (omega (arith, e, f), tt)
begun_append (j ∷ jobs) job e f h = (h.0, every-append (λ later. (later.heard ≡ 0) × (later.window ≡ 0)) jobs (job ∷ []) h.1 ((e, f), tt))

not_taking : (o : Option (List ℕ)) → is_some o ≡ false → o ≡ None
not_taking None e = refl
not_taking (Some bytes) e = cc

queued_lane : (lane : LaneState) (job : Job) → job.heard ≡ 0 → job.window ≡ 0 → is_some lane.taking ≡ false → nat_le 8 (length lane.jobs) ≡ false → IsLane lane → IsLane (with_jobs lane (lane.jobs ++ job ∷ []))
queued_lane lane job e f idle room h = record {
  few = let more = length-append lane.jobs (job ∷ []) in let less = leb-false 8 (length lane.jobs) room in omega (arith, more, less);
  begun = begun_append lane.jobs job e f h.begun;
  taking = subst (λ o. IsTaking o (lane.jobs ++ job ∷ [])) (sym (not_taking lane.taking idle)) tt;
}

stopped_length : (jobs : List Job) → length (map stopped_job jobs) ≡ length jobs
stopped_length [] = refl
stopped_length (job ∷ jobs) = ap suc (stopped_length jobs)

stopped_begun : (jobs : List Job) → HasBegun jobs → HasBegun (map stopped_job jobs)
stopped_begun [] h = tt
stopped_begun (job ∷ jobs) h = (h.0, every-map (λ later. (later.heard ≡ 0) × (later.window ≡ 0)) (λ later. (later.heard ≡ 0) × (later.window ≡ 0)) stopped_job (λ job k. k) jobs h.1)

stopped_taking : (taking : Option (List ℕ)) (jobs : List Job) → IsTaking taking jobs → IsTaking taking (map stopped_job jobs)
stopped_taking None jobs k = tt
stopped_taking (Some bytes) jobs k = (k.0, ap (map stopped_job) k.1)

stopped_lane : (lane : LaneState) → IsLane lane → IsLane (with_jobs lane (map stopped_job lane.jobs))
stopped_lane lane h = record {
  few = subst (λ n. n ≤ 8) (sym (stopped_length lane.jobs)) h.few;
  begun = stopped_begun lane.jobs h.begun;
  taking = stopped_taking lane.taking lane.jobs h.taking;
}

no_jobs : (jobs : List Job) → nat_lt 0 (length jobs) ≡ false → jobs ≡ []
no_jobs [] e = refl
no_jobs (job ∷ jobs) e = let less = ltb-false 0 (suc (length jobs)) e in absurd (omega (arith, less))

begun_lane : (lane : LaneState) (jobs : List Job) → jobs ≡ [] → IsLane lane → lane.jobs ≡ jobs → IsLane (record lane { taking = Some [] })
begun_lane lane jobs e h f = record { few = h.few; begun = h.begun; taking = (omega arith, f ∙ e) }

jobs_of_taking : (taking : Option (List ℕ)) (jobs : List Job) → is_none taking ≡ false → IsTaking taking jobs → jobs ≡ []
jobs_of_taking None jobs e k = cc
jobs_of_taking (Some bytes) jobs e k = k.1

added_lane : (lane : LaneState) (more : List ℕ) → is_none lane.taking ≡ false → length (unwrap_or lane.taking []) + length more ≤ 2 ^ 30 → IsLane lane → IsLane (record lane { taking = Some (unwrap_or lane.taking [] ++ more) })
added_lane lane more going short h = record {
  few = h.few;
  begun = h.begun;
  taking = (let whole = length-append (unwrap_or lane.taking []) more in omega (arith, whole, short), jobs_of_taking lane.taking lane.jobs going h.taking);
}

closed_lane : (lane : LaneState) → IsLane lane → IsLane (record lane { taking = None })
closed_lane lane h = record { few = h.few; begun = h.begun; taking = tt }

state_closed : (s : State) (lane : ℕ) → IsState s → IsState (closed s lane)
state_closed s lane h = state_lane s lane (record (lane_at s lane) { taking = None }) h (closed_lane (lane_at s lane) (lane_here s lane h))

state_brought : (s : State) (lane : ℕ) (back : Option ℕ) → BringsItsWindow s (calls.Feed lane back) → IsState s → IsState (brought_back s lane back)
state_brought s lane None brings h = h
state_brought s lane (Some m) brings h = state_lane s lane _ h (heard_lane m (lane_at s lane).jobs (lane_at s lane).taking brings.1 (lane_here s lane h))

-- ---- answers

is_free : (s : State) → is_none s.doubt ≡ true → s.doubt ≡ None
is_free s e = by s.doubt e
  where
    by : (o : Option Pending) → is_none o ≡ true → o ≡ None
    by None e = refl
    by (Some pending) e = cc

state_answered : (s : State) (tapes : List (List ℕ)) (call : Call) → BringsItsWindow s call → nothing_to_land s call ≡ true → IsState s → InRange call → refusal s tapes call ≡ None → IsState (after_answer s tapes call)
state_answered s tapes (calls.Record take) brings land h range free = state_changed s (effect_of s tapes (calls.Record take)) h (is_free s land) (fit_call s tapes (calls.Record take) h range free)
state_answered s tapes (calls.Concat ids) brings land h range free = state_changed s (effect_of s tapes (calls.Concat ids)) h (is_free s land) (fit_call s tapes (calls.Concat ids) h range free)
state_answered s tapes (calls.Sub id start len) brings land h range free = state_changed s (effect_of s tapes (calls.Sub id start len)) h (is_free s land) (fit_call s tapes (calls.Sub id start len) h range free)
state_answered s tapes (calls.Replace id start len with) brings land h range free = state_changed s (effect_of s tapes (calls.Replace id start len with)) h (is_free s land) (fit_call s tapes (calls.Replace id start len with) h range free)
state_answered s tapes (calls.End lane) brings land h range free = state_changed (closed s lane) (effect_of s tapes (calls.End lane)) (state_closed s lane h) (is_free s land) (fit_call s tapes (calls.End lane) h range free)
state_answered s tapes (calls.Retain class key id note) brings land h range free = state_changed s (effect_of s tapes (calls.Retain class key id note)) h (is_free s land) (fit_call s tapes (calls.Retain class key id note) h range free)
state_answered s tapes (calls.Forget class key) brings land h range free = state_changed s (effect_of s tapes (calls.Forget class key)) h (is_free s land) (fit_call s tapes (calls.Forget class key) h range free)
state_answered s tapes (calls.Census keys) brings land h range free = state_changed s (effect_of s tapes (calls.Census keys)) h (is_free s land) (fit_call s tapes (calls.Census keys) h range free)
state_answered s tapes (calls.Advance moment) brings land h range free = state_changed s (effect_of s tapes (calls.Advance moment)) h (is_free s land) (fit_call s tapes (calls.Advance moment) h range free)
state_answered s tapes (calls.Sweep limit) brings land h range free = state_changed s (effect_of s tapes (calls.Sweep limit)) h (is_free s land) (fit_call s tapes (calls.Sweep limit) h range free)
state_answered s tapes (calls.Length id) brings land h range free = h
state_answered s tapes (calls.Describe id) brings land h range free = h
state_answered s tapes (calls.Levels id) brings land h range free = h
state_answered s tapes (calls.Lookup class key) brings land h range free = h
state_answered s tapes calls.Landed brings land h range free = h
state_answered s tapes (calls.Play lane id start len) brings land h range free =
    let c = all_none (conditions s tapes (calls.Play lane id start len)) free in
    let job : Job = record { number = s.made + 1; passage = slice (samples_of s.ropes id) start len; heard = 0; window = 0; stopped = false } in
    let queued = state_lane s lane (with_jobs (lane_at s lane) ((lane_at s lane).jobs ++ job ∷ [])) h
    (queued_lane (lane_at s lane) job refl refl (not_when (is_some (lane_at s lane).taking) why.LaneRecording c.1.1.0) (not_when (nat_le 8 (length (lane_at s lane).jobs)) why.QueueFull c.1.1.1.0) (lane_here s lane h)) in
    record { kept = queued.kept; forms = queued.forms; doubt = queued.doubt; lanes = queued.lanes; lane_count = queued.lane_count; rest = queued.rest; newest = queued.newest }
state_answered s tapes (calls.Feed lane back) brings land h range free =
    let home = brought_back s lane back in
    let ready = state_brought s lane back brings h in
    state_lane home lane (with_jobs (lane_at home lane) (served s.shape.block (lane_at home lane).jobs)) ready
    (served_lane s.shape.block (lane_at home lane).jobs (lane_at home lane).taking (lane_here home lane ready))
state_answered s tapes (calls.Stop lane) brings land h range free = state_lane s lane _ h (stopped_lane (lane_at s lane) (lane_here s lane h))
state_answered s tapes (calls.Begin lane) brings land h range free =
    let c = all_none (conditions s tapes (calls.Begin lane)) free in
    state_lane s lane _ h
    (begun_lane (lane_at s lane) (lane_at s lane).jobs (no_jobs (lane_at s lane).jobs (not_when (nat_lt 0 (length (lane_at s lane).jobs)) (why.LaneBusy (length (lane_at s lane).jobs)) c.1.1.0)) (lane_here s lane h) refl)
state_answered s tapes (calls.Add lane take) brings land h range free =
    let c = all_none (conditions s tapes (calls.Add lane take)) free in
    state_lane s lane _ h
    (added_lane (lane_at s lane) (taken tapes take) (not_when (is_none (lane_at s lane).taking) why.NoRecording c.1.0) (not_long (length (taking_of s lane) + length (taken tapes take)) c.1.1.0) (lane_here s lane h))

-- a window comes home whatever the reply is
state_home : (s : State) (call : Call) → BringsItsWindow s call → IsState s → IsState (windows_home s call)
state_home s (calls.Feed lane back) brings h = state_brought s lane back brings h
state_home s _ brings h = h

-- ---- entries

by_refusal : (s : State) (tapes : List (List ℕ)) (call : Call) (o : Option Why) → refusal s tapes call ≡ o → BringsItsWindow s call → nothing_to_land s call ≡ true → IsState s → InRange call → IsState (after_reply s tapes call o)
by_refusal s tapes call None e brings land h range = state_answered s tapes call brings land h range e
by_refusal s tapes call (Some reason) e brings land h range = state_home s call brings h

by_doubt : (s : State) (tapes : List (List ℕ)) (call : Call) → IsState s → InRange call → refusal s tapes call ≡ None → IsState (record (recording_closed s call) { doubt = asked_in s.form (effect_of s tapes call) })
by_doubt s tapes (calls.End lane) h range free = state_doubted (closed s lane) (effect_of s tapes (calls.End lane)) (state_closed s lane h) (fit_call s tapes (calls.End lane) h range free)
by_doubt s tapes call h range free = state_doubted s (effect_of s tapes call) h (fit_call s tapes call h range free)

landed_kept : (s : State) → IsState s → IsState (landed s)
landed_kept s h = state_landed (record s { doubt = None }) s.doubt (state_settled s h) refl h.doubt

by_answered : (s : State) (tapes : List (List ℕ)) (call : Call) → BringsItsWindow s call → nothing_to_land s call ≡ true → IsState s → InRange call → IsState (answered s tapes call)
by_answered s tapes calls.Landed brings land h range = landed_kept s h
by_answered s tapes call brings land h range = by_refusal s tapes call (refusal s tapes call) refl brings land h range

by_outcome : (o : Outcome) (s : State) (tapes : List (List ℕ)) (call : Call) (reply : Reply) → BringsItsWindow s call → MayReply o s tapes call reply → IsState s → InRange call → IsState (state_by o s tapes call)
by_outcome Outcome.Answered s tapes call reply brings k h range = by_answered s tapes call brings k.0 h range
by_outcome Outcome.Faulted s tapes call reply brings k h range = state_home s call brings h
by_outcome Outcome.Doubted s tapes call reply brings k h range = by_doubt s tapes call h range k.2

by_reply : (s : State) (tapes : List (List ℕ)) (caller : ℕ) (call : Call) (reply : Reply) → IsState s → InRange call → IsReply s tapes caller call reply → IsState (state_by (outcome_of reply) s tapes call)
by_reply s tapes caller calls.Landed reply h range k = subst (λ r. IsState (state_by (outcome_of r) s tapes calls.Landed)) (sym k.1) (landed_kept s h)
by_reply s tapes caller call reply h range k = by_outcome (outcome_of reply) s tapes call reply k.0 k.1 h range

-- an entry that may follow leaves a state
pub state_kept : (s : State) (tapes : List (List ℕ)) (e : Entry) → IsState s → InRange e.call → IsAnswer s tapes e → IsState (state_after s tapes e)
state_kept s tapes e h range k = by_reply s tapes e.caller e.call e.reply h range k

pub states_kept : (s : State) (tapes : List (List ℕ)) (es : List Entry) → IsState s → Every (λ e. InRange e.call) es → Legal s tapes es → IsState (after s tapes es)
states_kept s tapes [] h range k = h
states_kept s tapes (e ∷ es) h range k = states_kept (state_after s tapes e) tapes es (state_kept s tapes e h range.0 k.0) range.1 k.1

-- ---- the first state

pub quiet_lanes : (n : ℕ) → Every IsLane (replicate n quiet_lane)
quiet_lanes zero = tt
quiet_lanes (suc n) = (quiet, quiet_lanes n)

pub quiet_count : (n : ℕ) → length (replicate n quiet_lane) ≡ n
quiet_count zero = refl
quiet_count (suc n) = ap suc (quiet_count n)

form_either : (b : Bool) → IsForm (one_or_two b)
form_either true = inr refl
form_either false = inl refl

pub formatted_kept : (shape : Shape) → IsState (formatted shape)
formatted_kept shape = record {
  kept = record { rising = omega arith; next_limit = omega arith; moment_limit = omega arith; each_rope = tt; each_row = tt; once = tt };
  forms = form_either (shape.version == 2);
  doubt = tt;
  lanes = quiet_lanes shape.lanes;
  lane_count = quiet_count shape.lanes;
  rest = omega arith;
  newest = λ v. ap (λ n. one_or_two (n == 2)) v;
}
