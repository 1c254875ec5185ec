-- What calls that do not feed a lane leave of its jobs.
use Rattle.std.proofs.Common.{◌≡◌, ℕ, true, Bool, List, [], ◌∷◌, ◌++◌, map, Option, Some, None, refl, sym, ap, subst}
use Rattle.voice_model.specs.Samples.{Tagged}
use Rattle.voice_model.specs.State.{State, Job, Effect, Pending, lane_at}
use Rattle.voice_model.specs.Changes.{effect_of}
use Rattle.voice_model.specs.Step.{Outcome, outcome_of, first_job, stopped_job, refusal, brought_back, windows_home, recording_closed, on_lanes, with_change, after_landing, after_reply, answered, state_by, state_after, after}
use Rattle.voice_model.specs.Valid.{Every}
use Rattle.voice_model.specs.declared.calls.Call.{Call}
use Rattle.voice_model.specs.declared.calls.Call.TheVariants as calls
use Rattle.voice_model.specs.declared.calls.Why.{Why}
use Rattle.voice_model.specs.declared.calls.Entry.{Entry}
use Rattle.serving_laws.specs.Lanes.{Feeds, FeedsNot, FedBy, Hears, HasNotBegun, IsAtRest, a_job}
use Rattle.serving_laws.proofs.Places.{set_at}

-- what a job that is queued and a stop leave true of a lane's jobs
pub record IsLasting (P : List Job → Type 0) : Type 0 where
  pub queued : (jobs : List Job) (job : Job) → job.heard ≡ 0 → job.window ≡ 0 → P jobs → P (jobs ++ job ∷ [])
  pub halted : (jobs : List Job) → P jobs → P (map stopped_job jobs)

brought : (P : List Job → Type 0) (s : State) (other : ℕ) (back : Option ℕ) (lane : ℕ) → ¬ (other ≡ lane) → P (lane_at s lane).jobs → P (lane_at (brought_back s other back) lane).jobs
brought P s other None lane apart h = h
brought P s other (Some m) lane apart h = set_at P s.lanes other _ lane h (λ e. absurd (apart e))

home : (P : List Job → Type 0) (s : State) (call : Call) (lane : ℕ) → ¬ Feeds lane call → P (lane_at s lane).jobs → P (lane_at (windows_home s call) lane).jobs
home P s (calls.Feed other back) lane apart h = brought P s other back lane apart h
home P s _ lane apart h = h

there : (P : List Job → Type 0) (s : State) (other lane : ℕ) → P (lane_at s lane).jobs → other ≡ lane → P (lane_at s other).jobs
there P s other lane h e = subst (λ n. P (lane_at s n).jobs) (sym e) h

lanes_last : (P : List Job → Type 0) → IsLasting P → (s : State) (tapes : List (List ℕ)) (call : Call) (lane : ℕ) → ¬ Feeds lane call → P (lane_at s lane).jobs → P (lane_at (on_lanes s tapes call) lane).jobs
lanes_last P lasting s tapes (calls.Play other id start len) lane apart h = set_at P s.lanes other _ lane h (λ e. lasting.queued (lane_at s other).jobs _ refl refl (there P s other lane h e))
lanes_last P lasting s tapes (calls.Feed other back) lane apart h = set_at P (brought_back s other back).lanes other _ lane (brought P s other back lane apart h) (λ e. absurd (apart e))
lanes_last P lasting s tapes (calls.Stop other) lane apart h = set_at P s.lanes other _ lane h (λ e. lasting.halted (lane_at s other).jobs (there P s other lane h e))
lanes_last P lasting s tapes (calls.Begin other) lane apart h = set_at P s.lanes other _ lane h (there P s other lane h)
lanes_last P lasting s tapes (calls.Add other take) lane apart h = set_at P s.lanes other _ lane h (there P s other lane h)
lanes_last P lasting s tapes (calls.End other) lane apart h = set_at P s.lanes other _ lane h (there P s other lane h)
lanes_last P lasting s tapes _ lane apart h = h

changed_last : (P : List Job → Type 0) (s : State) (form : ℕ) (effect : Option (Effect Tagged)) (lane : ℕ) → P (lane_at s lane).jobs → P (lane_at (with_change s form effect) lane).jobs
changed_last P s form None lane h = h
changed_last P s form (Some effect) lane h = h

landed_last : (P : List Job → Type 0) (s : State) (pending : Option Pending) (lane : ℕ) → P (lane_at s lane).jobs → P (lane_at (after_landing s pending) lane).jobs
landed_last P s None lane h = h
landed_last P s (Some pending) lane h = h

closed_last : (P : List Job → Type 0) (s : State) (call : Call) (lane : ℕ) → P (lane_at s lane).jobs → P (lane_at (recording_closed s call) lane).jobs
closed_last P s (calls.End other) lane h = set_at P s.lanes other _ lane h (there P s other lane h)
closed_last P s _ lane h = h

replied_last : (P : List Job → Type 0) → IsLasting P → (s : State) (tapes : List (List ℕ)) (call : Call) (reason : Option Why) (lane : ℕ) → ¬ Feeds lane call → P (lane_at s lane).jobs → P (lane_at (after_reply s tapes call reason) lane).jobs
replied_last P lasting s tapes call None lane apart h = changed_last P (on_lanes s tapes call) s.form (effect_of s tapes call) lane (lanes_last P lasting s tapes call lane apart h)
replied_last P lasting s tapes call (Some reason) lane apart h = home P s call lane apart h

answered_last : (P : List Job → Type 0) → IsLasting P → (s : State) (tapes : List (List ℕ)) (call : Call) (lane : ℕ) → ¬ Feeds lane call → P (lane_at s lane).jobs → P (lane_at (answered s tapes call) lane).jobs
answered_last P lasting s tapes calls.Landed lane apart h = landed_last P (record s { doubt = None }) s.doubt lane h
answered_last P lasting s tapes call lane apart h = replied_last P lasting s tapes call (refusal s tapes call) lane apart h

by_outcome : (P : List Job → Type 0) → IsLasting P → (o : Outcome) (s : State) (tapes : List (List ℕ)) (call : Call) (lane : ℕ) → ¬ Feeds lane call → P (lane_at s lane).jobs → P (lane_at (state_by o s tapes call) lane).jobs
by_outcome P lasting Outcome.Answered s tapes call lane apart h = answered_last P lasting s tapes call lane apart h
by_outcome P lasting Outcome.Faulted s tapes call lane apart h = home P s call lane apart h
by_outcome P lasting Outcome.Doubted s tapes call lane apart h = closed_last P s call lane h

-- an entry that does not feed the lane
pub entry_lasts : (P : List Job → Type 0) → IsLasting P → (s : State) (tapes : List (List ℕ)) (e : Entry) (lane : ℕ) → ¬ Feeds lane e.call → P (lane_at s lane).jobs → P (lane_at (state_after s tapes e) lane).jobs
entry_lasts P lasting s tapes e lane apart h = by_outcome P lasting (outcome_of e.reply) s tapes e.call lane apart h

-- ---- the first job

-- the first job of a lane is this one, stopped or not
abbrev pub IsFirst : ℕ → List Tagged → ℕ → ℕ → List Job → Type 0
IsFirst number passage heard window jobs = (stopped : Bool) × (first_job jobs ≡ Some (a_job number passage heard window stopped))

abbrev job_or : Job → Option Job → Job
job_or default None = default
job_or default (Some job) = job

-- the jobs behind the first one
pub jobs_behind : (jobs : List Job) (job : Job) → first_job jobs ≡ Some job → (rest : List Job) × (jobs ≡ job ∷ rest)
jobs_behind [] job e = cc
jobs_behind (first ∷ rest) job e = (rest, ap (λ o. job_or first o ∷ rest) e)

first_queued : (number : ℕ) (passage : List Tagged) (heard window : ℕ) (jobs : List Job) (job : Job) → IsFirst number passage heard window jobs → IsFirst number passage heard window (jobs ++ job ∷ [])
first_queued number passage heard window [] job h = let e = h.1 in cc
first_queued number passage heard window (first ∷ jobs) job h = h

first_halted : (number : ℕ) (passage : List Tagged) (heard window : ℕ) (jobs : List Job) → IsFirst number passage heard window jobs → IsFirst number passage heard window (map stopped_job jobs)
first_halted number passage heard window [] h = let e = h.1 in cc
first_halted number passage heard window (first ∷ jobs) h = (true, ap (λ o. Some (stopped_job (job_or first o))) h.1)

pub first_lasts : (number : ℕ) (passage : List Tagged) (heard window : ℕ) → IsLasting (IsFirst number passage heard window)
first_lasts number passage heard window = record {
  queued = λ jobs job e f h. first_queued number passage heard window jobs job h;
  halted = first_halted number passage heard window;
}

pub hears_after_entry : (s : State) (tapes : List (List ℕ)) (e : Entry) (lane number : ℕ) (passage : List Tagged) (heard window : ℕ) → ¬ Feeds lane e.call → Hears s lane number passage heard window → Hears (state_after s tapes e) lane number passage heard window
hears_after_entry s tapes e lane number passage heard window apart h =
    let later = entry_lasts (IsFirst number passage heard window) (first_lasts number passage heard window) s tapes e lane apart (h.stopped, h.first) in
    record { stopped = later.0; first = later.1 }

pub hears_after : (s : State) (tapes : List (List ℕ)) (es : List Entry) (lane number : ℕ) (passage : List Tagged) (heard window : ℕ) → FeedsNot lane es → Hears s lane number passage heard window → Hears (after s tapes es) lane number passage heard window
hears_after s tapes [] lane number passage heard window apart h = h
hears_after s tapes (e ∷ es) lane number passage heard window apart h = hears_after (state_after s tapes e) tapes es lane number passage heard window apart.1 (hears_after_entry s tapes e lane number passage heard window apart.0 h)

-- where a lane is fed by one caller, entries of others do not feed it
pub fed_by_another : (caller lane : ℕ) (es : List Entry) → FedBy caller lane es → Every (λ e. ¬ (e.caller ≡ caller)) es → FeedsNot lane es
fed_by_another caller lane [] fed others = tt
fed_by_another caller lane (e ∷ es) fed others = ((λ feeds. others.0 (fed.0 feeds)), fed_by_another caller lane es fed.1 others.1)

-- ---- a lane at rest

abbrev pub IsResting : List Job → Type 0
IsResting jobs = HasNotBegun (first_job jobs)

rest_queued : (jobs : List Job) (job : Job) → job.heard ≡ 0 → job.window ≡ 0 → IsResting jobs → IsResting (jobs ++ job ∷ [])
rest_queued [] job e f h = (e, f)
rest_queued (first ∷ jobs) job e f h = h

rest_halted : (jobs : List Job) → IsResting jobs → IsResting (map stopped_job jobs)
rest_halted [] h = tt
rest_halted (first ∷ jobs) h = h

pub rest_lasts : IsLasting IsResting
rest_lasts = record { queued = rest_queued; halted = rest_halted }

pub rests_after_entry : (s : State) (tapes : List (List ℕ)) (e : Entry) (lane : ℕ) → ¬ Feeds lane e.call → IsAtRest s lane → IsAtRest (state_after s tapes e) lane
rests_after_entry s tapes e lane apart h = entry_lasts IsResting rest_lasts s tapes e lane apart h

pub rests_after : (s : State) (tapes : List (List ℕ)) (es : List Entry) (lane : ℕ) → FeedsNot lane es → IsAtRest s lane → IsAtRest (after s tapes es) lane
rests_after s tapes [] lane apart h = h
rests_after s tapes (e ∷ es) lane apart h = rests_after (state_after s tapes e) tapes es lane apart.1 (rests_after_entry s tapes e lane apart.0 h)
