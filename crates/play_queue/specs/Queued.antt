-- The jobs of the lanes.
--     lane_of queues lane, first_job queues lane d      the jobs of a lane;  its first one, or d
--     heard_more n j, with_window n j, stopped_job j      a job of which more was heard, whose window is out, that is stopped
--     IsJob j      what was heard and is out lies in the passage, which fits 32 bits
--     AreQueues qs      each queue holds at most 8, and its jobs are such
use Rattle.std.specs.Prelude.{◌≡◌, ℕ, ◌+◌, ◌≤◌, ◌<◌, ◌^◌, List, [], ◌∷◌, slice_index_or, true}
use Rattle.circular_buffer.specs.Buffer.{Buffer}
use Rattle.voice_units.specs.Spots.{samples_in}
use Rattle.play_queue.specs.declared.jobs.Job.{Job}

-- the jobs of a queue, from the front
abbrev pub items_of : Buffer Job → List Job
items_of b = b.items

-- the jobs of a lane
abbrev pub lane_of : List (List Job) → ℕ → List Job
lane_of queues lane = slice_index_or queues lane []

-- the first job of a lane, or d
abbrev pub first_job : List (List Job) → ℕ → Job → Job
first_job queues lane d = slice_index_or (lane_of queues lane) 0 d

-- the job, of which that much more was heard and nothing is out
abbrev pub heard_more : ℕ → Job → Job
heard_more more j = record j { heard = j.heard + more; window = 0 }

-- the job, of which that much is out
abbrev pub with_window : ℕ → Job → Job
with_window n j = record j { window = n }

-- the job, stopped
abbrev pub stopped_job : Job → Job
stopped_job j = record j { stopped = true }

-- what was heard and is out lies in the passage, whose length fits 32 bits
pub record IsJob (j : Job) : Type 0 where
  pub within : j.heard + j.window ≤ samples_in j.passage
  pub fits : samples_in j.passage < 2 ^ 32

abbrev pub AreJobs : List Job → Type 0
AreJobs [] = Unit {0}
AreJobs (j ∷ js) = IsJob j × AreJobs js

-- a queue of at most 8 jobs
pub record IsQueue (q : Buffer Job) : Type 0 where
  pub eight : q.capacity ≡ 8
  pub jobs : AreJobs q.items

abbrev pub AreQueues : List (Buffer Job) → Type 0
AreQueues [] = Unit {0}
AreQueues (q ∷ qs) = IsQueue q × AreQueues qs
