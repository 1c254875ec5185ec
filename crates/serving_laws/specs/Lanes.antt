-- A lane's first job, as a caller knows it that has the lane served.
--     Feeds lane call, FeedsNot lane entries, FedBy caller lane entries      the call feeds the lane;  no entry does;  each that does is the caller's
--     Hears s lane number passage heard window      the lane's first job has this number and passage, is heard so far, and has this window out
--     IsAtRest s lane      nothing of the lane's first job was heard or is out
--     IsOver reply      the reply tells that a job is over
--     GoesOn t lane number passage total reply      what a feed's reply tells of a job of which this much was heard, and of the state after it
--     Begins s t lane reply      what it tells where it brought nothing back
use Rattle.std.specs.Prelude.{◌≡◌, ℕ, Bool, List, length, Option, Some, None}
use Rattle.voice_model.specs.Samples.{Tagged}
use Rattle.voice_model.specs.State.{State, Job, lane_at}
use Rattle.voice_model.specs.Step.{first_job}
use Rattle.voice_model.specs.Valid.{Every}
use Rattle.voice_model.specs.declared.calls.Call.{Call}
use Rattle.voice_model.specs.declared.calls.Call.TheVariants as calls
use Rattle.voice_model.specs.declared.calls.Reply.{Reply}
use Rattle.voice_model.specs.declared.calls.Reply.TheVariants as replies
use Rattle.voice_model.specs.declared.calls.Why.{Why}
use Rattle.voice_model.specs.declared.calls.Why.TheVariants as why
use Rattle.voice_model.specs.declared.calls.Entry.{Entry}

-- the call is a feed of the lane
abbrev pub Feeds : ℕ → Call → Type 0
Feeds lane (calls.Feed other back) = other ≡ lane
Feeds lane _ = ⊥

-- no entry feeds the lane
abbrev pub FeedsNot : ℕ → List Entry → Type 0
FeedsNot lane entries = Every (λ e. ¬ Feeds lane e.call) entries

-- each entry that feeds the lane is of the caller
abbrev pub FedBy : ℕ → ℕ → List Entry → Type 0
FedBy caller lane entries = Every (λ e. Feeds lane e.call → e.caller ≡ caller) entries

-- the first job of a lane
abbrev pub first_of_lane : State → ℕ → Option Job
first_of_lane s lane = first_job (lane_at s lane).jobs

abbrev pub a_job : ℕ → List Tagged → ℕ → ℕ → Bool → Job
a_job number passage heard window stopped = record { number = number; passage = passage; heard = heard; window = window; stopped = stopped }

-- the lane's first job is there, with this number and passage, heard so far and with this window out, stopped or not
pub record Hears (s : State) (lane number : ℕ) (passage : List Tagged) (heard window : ℕ) : Type 0 where
  pub stopped : Bool
  pub first : first_of_lane s lane ≡ Some (a_job number passage heard window stopped)

-- nothing of a job was heard or is out
abbrev pub HasNotBegun : Option Job → Type 0
HasNotBegun None = Unit {0}
HasNotBegun (Some job) = (job.heard ≡ 0) × (job.window ≡ 0)

-- the lane has no job, or nothing of its first job was heard or is out
abbrev pub IsAtRest : State → ℕ → Type 0
IsAtRest s lane = HasNotBegun (first_of_lane s lane)

-- a job is over, and leaves its lane
abbrev pub IsOver : Reply → Type 0
IsOver (replies.Ended job n) = Unit {0}
IsOver (replies.Stopped job n) = Unit {0}
IsOver _ = ⊥

-- What a feed's reply tells of a job of which `total` samples were heard, and of the state t after it: a window from there on, the end of the
-- passage there, a stop there, or a fault that leaves the job there with no window out. There is no other reply.
abbrev pub GoesOn : State → ℕ → ℕ → List Tagged → ℕ → Reply → Type 0
GoesOn t lane number passage total (replies.Window at n) = (at ≡ total) × Hears t lane number passage at n
GoesOn t lane number passage total (replies.Ended job n) = (job ≡ number) × (n ≡ total) × (n ≡ length passage)
GoesOn t lane number passage total (replies.Stopped job n) = (job ≡ number) × (n ≡ total)
GoesOn t lane number passage total (replies.No why.DiskFault) = Hears t lane number passage total 0
GoesOn t lane number passage total _ = ⊥

-- a feed that is refused leaves the lane's jobs; one that met a fault leaves the first job, which has no window out
abbrev pub BeginsNot : State → State → ℕ → Why → Type 0
BeginsNot s t lane why.DiskFault = (job : Job) × (first_of_lane s lane ≡ Some job) × (job.window ≡ 0) × Hears t lane job.number job.passage job.heard 0
BeginsNot s t lane _ = (lane_at t lane).jobs ≡ (lane_at s lane).jobs

-- what a feed of the state s tells that brings nothing back, and of the state t after it
abbrev pub Begins : State → State → ℕ → Reply → Type 0
Begins s t lane (replies.Window at n) = (job : Job) × (first_of_lane s lane ≡ Some job) × (at ≡ job.heard) × Hears t lane job.number job.passage at n
Begins s t lane (replies.Ended number n) = (job : Job) × (first_of_lane s lane ≡ Some job) × (number ≡ job.number) × (n ≡ job.heard) × (n ≡ length job.passage)
Begins s t lane (replies.Stopped number n) = (job : Job) × (first_of_lane s lane ≡ Some job) × (number ≡ job.number) × (n ≡ job.heard)
Begins s t lane (replies.No reason) = BeginsNot s t lane reason
Begins s t lane _ = ⊥
