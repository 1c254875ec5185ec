-- The lanes of the definitions, as the lanes of the program show them.
--     shown_job fill job      a job as the definitions have it, where `fill` gives the sample at a place
--     ShowsLane fill jobs lane      the jobs of a lane are these
--     more_of back      how much more of the first job was heard, as a window is brought back
--     FeedIs fill s tapes lane back jobs reply      a Feed that nothing refuses replies so, and leaves these jobs on the lane
--     FeedsAreServed, FeedsReach, WindowsComeNext, PlaysAndStops      the laws
use Rattle.std.specs.Prelude.{◌≡◌, ℕ, ◌+◌, ◌<◌, true, false, List, [], ◌∷◌, ◌++◌, map, drop, length, Option, Some, None, count_by, not, ◌&&◌, nat_lt}
use Rattle.voice_units.specs.declared.pieces.Piece.{Piece}
use Rattle.voice_units.specs.Spots.{Spot, spots_of, samples_in, slice, window}
use Rattle.voice_model.specs.Samples.{Tagged, spot_of}
use Rattle.voice_model.specs.State.{State, LaneState, lane_at, with_lane, samples_of}
use Rattle.voice_model.specs.State as model
use Rattle.voice_model.specs.Step.{Outcome, with_jobs, reply_of, on_lanes, reaches_device, state_by}
use Rattle.voice_model.specs.declared.calls.Call.TheVariants as calls
use Rattle.voice_model.specs.declared.calls.Reply.{Reply}
use Rattle.voice_model.specs.declared.calls.Reply.TheVariants as replies
use Rattle.play_queue.specs.declared.jobs.Job.{Job}
use Rattle.play_queue.specs.Queued.{stopped_job}
use Rattle.playing.specs.Lanes.{new_job, window_at, stopped_at, home_with, sent, next_window, next_start, passage_length}

-- a job as the definitions have it
abbrev pub shown_job : (Spot → Tagged) → Job → model.Job
shown_job fill job = record { number = job.id; passage = map fill (spots_of job.passage); heard = job.heard; window = job.window; stopped = job.stopped }

-- the jobs of a lane are these
abbrev pub ShowsLane : (Spot → Tagged) → List Job → LaneState → Type 0
ShowsLane fill jobs lane = lane.jobs ≡ map (shown_job fill) jobs

-- how much more of the first job was heard
abbrev pub more_of : Option ℕ → ℕ
more_of None = 0
more_of (Some m) = m

-- the state with these jobs on a lane
abbrev pub state_with : (Spot → Tagged) → State → ℕ → List Job → State
state_with fill s lane jobs = with_lane s lane (with_jobs (lane_at s lane) (map (shown_job fill) jobs))

-- a Feed that nothing refuses replies so, and leaves these jobs on the lane
pub record FeedIs (fill : Spot → Tagged) (s : State) (tapes : List (List ℕ)) (lane : ℕ) (back : Option ℕ) (jobs : List Job) (reply : Reply) : Type 0 where
  pub replies : reply_of s tapes (calls.Feed lane back) ≡ reply
  pub leaves : on_lanes s tapes (calls.Feed lane back) ≡ state_with fill s lane jobs

-- what is known of a lane as it is fed
pub record IsFed (fill : Spot → Tagged) (s : State) (lane : ℕ) (back : Option ℕ) (jobs : List Job) : Type 0 where
  pub spots : (x : Spot) → spot_of (fill x) ≡ x
  pub low : lane < length s.lanes
  pub shows : ShowsLane fill jobs (lane_at s lane)
  pub some : 0 < length jobs
  pub home : back ≡ None → window_at jobs ≡ 0

-- the number of the first job
abbrev pub number_at : List Job → ℕ
number_at [] = 0
number_at (job ∷ jobs) = job.id

-- the three answers to a Feed that nothing refuses
pub record FeedsAreServed : Type 0 where
  pub stopped : (fill : Spot → Tagged) (s : State) (tapes : List (List ℕ)) (lane : ℕ) (back : Option ℕ) (jobs : List Job) → IsFed fill s lane back jobs → stopped_at jobs ≡ true
      → FeedIs fill s tapes lane back (drop 1 jobs) (replies.Stopped (number_at jobs) (next_start (more_of back) jobs))
  pub ended : (fill : Spot → Tagged) (s : State) (tapes : List (List ℕ)) (lane : ℕ) (back : Option ℕ) (jobs : List Job) → IsFed fill s lane back jobs → stopped_at jobs ≡ false → next_start (more_of back) jobs ≡ passage_length jobs
      → FeedIs fill s tapes lane back (drop 1 jobs) (replies.Ended (number_at jobs) (next_start (more_of back) jobs))
  pub window : (fill : Spot → Tagged) (s : State) (tapes : List (List ℕ)) (lane : ℕ) (back : Option ℕ) (jobs : List Job) → IsFed fill s lane back jobs → stopped_at jobs ≡ false → next_start (more_of back) jobs < passage_length jobs
      → FeedIs fill s tapes lane back (sent (more_of back) (samples_in (next_window s.shape.block (more_of back) jobs)) jobs) (replies.Window (next_start (more_of back) jobs) (samples_in (next_window s.shape.block (more_of back) jobs)))

-- a Feed that nothing refuses reaches a device where a window comes, and nowhere else; after a fault the window that was brought back is home
pub record FeedsReach : Type 0 where
  pub reaches : (fill : Spot → Tagged) (s : State) (tapes : List (List ℕ)) (lane : ℕ) (back : Option ℕ) (jobs : List Job) → IsFed fill s lane back jobs
      → reaches_device s tapes (calls.Feed lane back) ≡ (not (stopped_at jobs) && nat_lt (next_start (more_of back) jobs) (passage_length jobs))
  pub faulted : (fill : Spot → Tagged) (s : State) (tapes : List (List ℕ)) (lane : ℕ) (back : Option ℕ) (jobs : List Job) → IsFed fill s lane back jobs
      → state_by Outcome.Faulted s tapes (calls.Feed lane back) ≡ state_with fill s lane (home_with (more_of back) jobs)

-- the places of a window are those of the passage that come next, as many as the definitions give
pub record WindowsComeNext : Type 0 where
  pub places : (block more : ℕ) (job : Job) (jobs : List Job) → spots_of (next_window block more (job ∷ jobs)) ≡ slice (spots_of job.passage) (job.heard + more) (window block (spots_of job.passage) (job.heard + more))

-- a Play that nothing refuses, and a Stop
pub record PlaysAndStops : Type 0 where
  pub play : (fill : Spot → Tagged) (s : State) (tapes : List (List ℕ)) (lane id start len : ℕ) (jobs : List Job) (passage : List Piece) → ShowsLane fill jobs (lane_at s lane) → map fill (spots_of passage) ≡ slice (samples_of s.ropes id) start len
      → on_lanes s tapes (calls.Play lane id start len) ≡ record (state_with fill s lane (jobs ++ new_job (s.made + 1) passage ∷ [])) { made = s.made + 1 }
  pub stop : (fill : Spot → Tagged) (s : State) (tapes : List (List ℕ)) (lane : ℕ) (jobs : List Job) → ShowsLane fill jobs (lane_at s lane) → on_lanes s tapes (calls.Stop lane) ≡ state_with fill s lane (map stopped_job jobs)
  pub newly : (fill : Spot → Tagged) (s : State) (tapes : List (List ℕ)) (lane : ℕ) (jobs : List Job) → ShowsLane fill jobs (lane_at s lane) → reply_of s tapes (calls.Stop lane) ≡ replies.Number (count_by (λ job. not job.stopped) jobs)
