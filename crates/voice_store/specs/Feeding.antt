-- What a Feed of the store is answered.
--     told fed      its reply
--     passage_at s lane      the passage of a lane's first job
--     HasSamples s lane fed      the lease of a window has the samples of the first job's passage from where it begins
use Rattle.std.specs.Prelude.{◌≡◌, ℕ, List, [], ◌∷◌, map}
use Rattle.voice_units.specs.Spots.{slice}
use Rattle.voice_model.specs.Samples.{Tagged}
use Rattle.voice_model.specs.State.{State, Job, lane_at}
use Rattle.voice_model.specs.declared.calls.Reply.{Reply}
use Rattle.voice_model.specs.declared.calls.Reply.TheVariants as replies
use Rattle.voice_model.specs.declared.calls.Why.TheVariants as why
use Rattle.lane_calls.specs.declared.outcomes.Fed.{Fed}
use Rattle.lane_calls.specs.declared.outcomes.Fed.TheVariants as feds

-- its reply
abbrev pub told : Fed → Reply
told (feds.Refused reason) = replies.No reason
told (feds.Stopped id heard) = replies.Stopped id heard
told (feds.Ended id heard) = replies.Ended id heard
told (feds.Window at lease) = replies.Window at lease.len
told feds.Fault = replies.No why.DiskFault

abbrev pub first_passage : List Job → List Tagged
first_passage [] = []
first_passage (job ∷ jobs) = job.passage

-- the passage of a lane's first job
abbrev pub passage_at : State → ℕ → List Tagged
passage_at s lane = first_passage (lane_at s lane).jobs

-- the lease of a window, if there is one, has the samples of the first job's passage from where it begins
abbrev pub HasSamples : State → ℕ → Fed → Type 0
HasSamples s lane (feds.Window at lease) = lease.samples ≡ map (λ t. t.byte) (slice (passage_at s lane) at lease.len)
HasSamples s lane _ = Unit {0}
